use mathlib.Core.Path.{◌≡◌, sym, ap, ◌∙◌}
use Prim.Native.Nat.{ℕ, ◌+◌}
use native.Mathlib.Nat.{le_refl, le_of_lt}
use native.Mathlib.Decide.{ℕ_discrete}
use native.Mathlib.Omega.{arith}
use Rattle.lists.specs.Places.{at}
use Rattle.store.specs.Elimination.{cells}
use Rattle.store.proofs.RowStarts.{start_is, start-next, row-end}
use Rattle.store.proofs.Bytes.{cells_right}
use Rattle.store.proofs.against.Against.next_free.Goals as goal

pub loop-q-init : goal.loop-q-init
loop-q-init c = (ap (λ (n : ℕ). n + c.args.from) (sym (start_is c.args.self.now.c c.args.from c.requires)), λ j l k. absurd (omega arith))

pub bounds-self-a : goal.bounds-self-a
bounds-self-a c =
    let self = c.args.self.now in
    omega (arith, row-end self.c c.loop-q.q c.loop-q-test.true)

pub returns-then-self-a-eq0 : goal.returns-then-self-a-eq0
returns-then-self-a-eq0 c =
    let loop = c.loop-q in
    let self = c.args.self.now in
    let diagonal : at self.store.now loop.a ≡ cells self.c self.store.now loop.q loop.q =
    (ap (at self.store.now) loop.invariant.0 ∙ sym (cells_right self.c self.store.now loop.q loop.q (le_refl loop.q))) in
    record {
      column = c.loop-q-test.true;
      next = record { low = loop.auto.q; high = le_of_lt c.loop-q-test.true; passed = loop.invariant.1; stopped = λ l. sym diagonal ∙ c.if-self-a-eq0.true };
    }

pub loop-q-preserved : goal.loop-q-preserved
loop-q-preserved c =
    let loop = c.loop-q in
    let self = c.args.self.now in
    let diagonal : at self.store.now loop.a ≡ cells self.c self.store.now loop.q loop.q =
    (ap (at self.store.now) loop.invariant.0 ∙ sym (cells_right self.c self.store.now loop.q loop.q (le_refl loop.q))) in (
      omega (arith, start-next self.c loop.q),
      λ j l k. elim (ℕ_discrete j loop.q) [
        | yes e ↦ rw e (λ z. c.if-self-a-eq0.false (diagonal ∙ z))
        | no d ↦ loop.invariant.1 j l (omega arith)
      ],
    )
