-- `store::settling::settle_entry` meets its contract: the local array's first C + 1 places are the entry's equation (`EntryEquations`).
-- Assumes nothing.
use mathlib.Core.Path.{ap₂, subst⁻¹, ◌∙◌}
use mathlib.Core.List.{List}
use Prim.Native.Nat.{ℕ}
use native.Mathlib.Omega.{arith}
use Rattle.lists.specs.Places.{at}
use Rattle.plan.specs.Lending.{whole}
use Rattle.plan.proofs.Bounds.{prime-low}
use Rattle.store.specs.Elimination.{cells}
use Rattle.store.specs.Stages.{Ready}
use Rattle.store.specs.Settled.{standing, values_of}
use Rattle.store.proofs.EntryEquations.{held-list, held-line}
use Rattle.store.proofs.settling.settle_entry.Goals as goal

pub invariant_of-against : goal.invariant_of-against
invariant_of-against c =
    let plan = c.args.plan.now in record {
      ready = subst⁻¹ (λ (n : ℕ). Ready plan.numbers.p n c.args.store.now) c.columns-c.ensures c.requires;
      line = held-line (whole plan) c.args.entry 0 plan.within plan.lent (omega (arith, prime-low plan.within)) c.columns-c.ensures c.entry_equation.ensures _;
    }

pub returns : goal.returns
returns c =
    let plan = c.args.plan.now in
    let same = c.columns-c.ensures in
    let list = held-list (whole plan) c.args.entry 0 plan.within plan.lent (omega (arith, prime-low plan.within)) same c.entry_equation.ensures _ in
    c.settle.ensures
    ∙ ap₂ (λ (n : ℕ) (xs : List ℕ). values_of (standing plan.numbers.p n (cells n c.args.store.now) (at xs))) same list
