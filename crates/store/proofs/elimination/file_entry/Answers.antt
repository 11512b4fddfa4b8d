-- `store::elimination::file_entry` meets its contract: the local array's first C + 1 places are the entry's equation (`EntryEquations`).
-- Assumes nothing.
use mathlib.Core.Path.{ap₂, subst⁻¹, ◌∙◌}
use mathlib.Core.List.{List}
use Prim.Native.Nat.{ℕ}
use Rattle.lists.specs.Places.{at}
use Rattle.plan.specs.Lending.{whole}
use Rattle.store.specs.Elimination.{outcome, after, cells, flat}
use Rattle.store.specs.Stages.{Ready}
use Rattle.store.specs.Calls.{answered, filed}
use Rattle.store.proofs.EntryEquations.{held-list, held-line}
use Rattle.store.proofs.elimination.file_entry.Goals as goal

pub file_equation-requires : goal.file_equation-requires
file_equation-requires c =
    let plan = c.args.plan.now in record {
      ready = subst⁻¹ (λ (n : ℕ). Ready plan.numbers.p n c.args.store.now) c.columns-c.ensures c.requires.ready;
      line = held-line (whole plan) c.args.entry c.args.value plan.within plan.lent c.requires.value_lt_p c.columns-c.ensures c.entry_equation.ensures _;
    }

pub returns : goal.returns
unfolding filed
returns c =
    let plan = c.args.plan.now in
    let p = plan.numbers.p in
    let store = c.args.store.now in
    let same = c.columns-c.ensures in
    let list = held-list (whole plan) c.args.entry c.args.value plan.within plan.lent c.requires.value_lt_p same c.entry_equation.ensures _ in record {
      result_value = c.file_equation.ensures.result_value ∙ ap₂ (λ (n : ℕ) (xs : List ℕ). answered (outcome p n (cells n store) (at xs))) same list;
      store_after = c.file_equation.ensures.store_after ∙ ap₂ (λ (n : ℕ) (xs : List ℕ). flat n (after p n (cells n store) (at xs))) same list;
    }
