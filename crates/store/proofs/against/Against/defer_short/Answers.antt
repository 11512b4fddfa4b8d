use mathlib.Core.Path.{sym, ap, ◌∙◌}
use Prim.Native.Nat.{ℕ, ◌+◌, ◌-◌}
use native.Mathlib.Nat.{le_refl, le_of_lt}
use native.Mathlib.Omega.{arith}
use lib.ListN.{length}
use Rattle.lists.specs.Places.{tab}
use Rattle.lists.proofs.Tabs.{tab-length}
use Rattle.lists.proofs.Parts.{part_length, all-zero}
use Rattle.store.proofs.Pasting.{row_fits, tail-length}
use Rattle.store.proofs.Deferring.{rows_fit, row_at, held_none, held-room, held_small, held_fits, held_next, held_all}
use Rattle.store.proofs.against.Against.defer_short.Goals as goal

pub accumulate-requires : goal.accumulate-requires
accumulate-requires c =
    let zeros = ap length c.requires.acc_value ∙ tab-length (c.args.self.now.c + 1) (λ _. 0) in
    record {
      ys_len = c.args.self.now.line.places ∙ sym zeros;
      room = λ i. omega (arith, all-zero (c.args.self.now.c + 1) _ c.requires.acc_value i, c.args.self.now.line.residues i, c.args.self.now.ready.modulus.1);
    }

pub loop-q-init : goal.loop-q-init
loop-q-init c =
    let r = rows_fit c.args.self.now.p c.args.self.now.ready.modulus in
    (held_none _ _ _ _ c.requires.acc_value c.accumulate.ensures c.requires.short_value r.1, r.0, r.1)

pub make_room-left-requires : goal.make_room-left-requires
make_room-left-requires c =
    let self = c.args.self.now in
    let w = c.loop-q.invariant.0 in record {
      short_len = w.narrow ∙ sym w.wide;
      headroom = held_small w self.ready self.line;
    }

pub overflow_add-a : goal.overflow_add-a
overflow_add-a c =
    omega (arith, row_fits (row_at c.args.self.now.ready c.args.self.now.line c.loop-q.invariant.0.both c.loop-q-test.true))

pub overflow_add-end : goal.overflow_add-end
overflow_add-end c =
    omega (arith, row_fits (row_at c.args.self.now.ready c.args.self.now.line c.loop-q.invariant.0.both c.loop-q-test.true))

pub bounds-self-a : goal.bounds-self-a
bounds-self-a c =
    omega (arith, row_fits (row_at c.args.self.now.ready c.args.self.now.line c.loop-q.invariant.0.both c.loop-q-test.true))

pub slice_bounds-accumulate-end-in-loop-q : goal.slice_bounds-accumulate-end-in-loop-q
slice_bounds-accumulate-end-in-loop-q c =
    row_fits (row_at c.args.self.now.ready c.args.self.now.line c.loop-q.invariant.0.both c.loop-q-test.true)

pub accumulate-requires-in-loop-q : goal.accumulate-requires-in-loop-q
accumulate-requires-in-loop-q c =
    let loop = c.loop-q in
    let l = c.loop-q-test.true in
    let row = row_at c.args.self.now.ready c.args.self.now.line loop.invariant.0.both l in
    let w = held-room loop.invariant.0 _ _ _ _ loop.invariant.1 loop.invariant.2 c.make_room-left.ensures in record {
      ys_len = tail-length row (le_refl _) (le_of_lt l) ∙ sym (part_length _ loop.q (c.args.self.now.c + 1 - loop.q) (omega (arith, w.0.narrow)));
      room = held_fits w.0 c.args.self.now.ready c.args.self.now.line l _ c.factor-g.ensures w.1;
    }

pub loop-q-preserved : goal.loop-q-preserved
loop-q-preserved c =
    let self = c.args.self.now in
    let inv = c.loop-q.invariant in
    let w = held-room inv.0 _ _ _ _ inv.1 inv.2 c.make_room-left.ensures in
    (held_next w.0 self.ready self.line c.loop-q-test.true _ c.factor-g.ensures w.1 _ c.accumulate-in-loop-q.ensures, inv.1, inv.2)

pub pour-requires : goal.pour-requires
pour-requires c =
    let w = c.loop-q.invariant.0 in
    let self = c.args.self.now in record {
      short_len = w.narrow ∙ sym w.wide;
      headroom = held_small w self.ready self.line;
    }

pub returns : goal.returns
returns c =
    let pour = c.pour in
    let w = c.loop-q.invariant.0 in record {
      acc_after = held_all w c.loop-q-test.false _ pour.ensures.acc_after;
      short_after = pour.ensures.short_after ∙ ap (λ (n : ℕ). tab n (λ _. 0)) w.narrow;
    }
