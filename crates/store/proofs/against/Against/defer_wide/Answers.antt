use mathlib.Core.Path.{refl, sym, ap, ◌∙◌}
use Prim.Native.Nat.{ℕ, ◌+◌, ◌-◌, ◌<◌}
use native.Mathlib.Nat.{le_of_lt, le_refl}
use native.Mathlib.Omega.{arith}
use lib.ListN.{length}
use Rattle.lists.specs.Places.{at}
use Rattle.lists.proofs.Tabs.{tab-length}
use Rattle.lists.proofs.Parts.{part_length, part-each, all-zero}
use Rattle.field.proofs.Ranges.{headroom-fits}
use Rattle.store.proofs.Pasting.{row_fits, tail-length}
use Rattle.store.proofs.Deferring.{subtracted-none, subtracted-room, subtracted-next, subtracted-all, row_at, row-small, added, added-length}
use Rattle.store.proofs.against.Against.defer_wide.Goals as goal

pub accumulate-requires : goal.accumulate-requires
accumulate-requires c =
    let zeros = ap length c.requires ∙ tab-length (c.args.self.now.c + 1) (λ _. 0) in
    record {
      ys_len = c.args.self.now.line.places ∙ sym zeros;
      room = λ i. omega (arith, all-zero (c.args.self.now.c + 1) _ c.requires i, c.args.self.now.line.residues i, c.args.self.now.ready.modulus.1);
    }

pub loop-q-init : goal.loop-q-init
loop-q-init c =
    subtracted-none _ _ c.requires c.accumulate.ensures

pub overflow_add-a : goal.overflow_add-a
overflow_add-a c =
    omega (arith, row_fits (row_at c.args.self.now.ready c.args.self.now.line c.loop-q.invariant.0 c.loop-q-test.true))

pub overflow_add-end : goal.overflow_add-end
overflow_add-end c =
    omega (arith, row_fits (row_at c.args.self.now.ready c.args.self.now.line c.loop-q.invariant.0 c.loop-q-test.true))

pub bounds-self-a : goal.bounds-self-a
bounds-self-a c =
    omega (arith, row_fits (row_at c.args.self.now.ready c.args.self.now.line c.loop-q.invariant.0 c.loop-q-test.true))

pub slice_bounds-accumulate-end-in-loop-q : goal.slice_bounds-accumulate-end-in-loop-q
slice_bounds-accumulate-end-in-loop-q c =
    row_fits (row_at c.args.self.now.ready c.args.self.now.line c.loop-q.invariant.0 c.loop-q-test.true)

pub accumulate-requires-in-loop-q : goal.accumulate-requires-in-loop-q
accumulate-requires-in-loop-q c =
    let row = row_at c.args.self.now.ready c.args.self.now.line c.loop-q.invariant.0 c.loop-q-test.true in
    let loop = c.loop-q in record {
      ys_len = tail-length row (le_refl _) (le_of_lt c.loop-q-test.true)
          ∙ sym (part_length loop.acc loop.q (c.args.self.now.c + 1 - loop.q) (omega (arith, loop.invariant.1)));
      room = headroom-fits c.factor-g.result _ _ (omega arith)
          (λ i. omega (arith, row-small c.args.self.now.ready c.args.self.now.line loop.invariant.0 c.loop-q-test.true i, c.args.self.now.ready.modulus.1))
          (part-each (λ (x : ℕ). x + 65025 < 4294967296) loop.acc loop.q (c.args.self.now.c + 1 - loop.q) (omega arith)
          (subtracted-room c.args.self.now.ready c.args.self.now.line loop.invariant.0 65025 (omega arith) loop.acc loop.invariant.1 (λ j k. le_refl (at loop.acc j))));
    }

pub loop-q-preserved : goal.loop-q-preserved
loop-q-preserved c =
    let self = c.args.self.now in
    let w = c.loop-q.invariant in
    let l = c.loop-q-test.true in
    let factor = c.factor-g.ensures in
    let sum = c.accumulate-in-loop-q.ensures in (
      subtracted-next self.ready self.line w.0 l _ (added self.ready self.line w.0 l _ factor _ _ w.1 sum),
      added-length self.ready self.line w.0 l _ factor _ _ w.1 sum,
    )

pub returns : goal.returns
returns c = subtracted-all c.loop-q.invariant.0 c.loop-q-test.false c.loop-q.invariant.1 (λ j l. refl)
