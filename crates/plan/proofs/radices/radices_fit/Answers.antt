-- `plan::radices::radices_fit` meets its contract. Assumes nothing.
use Rattle.std.proofs.Common.{rules, tests, ℕ, not, sym, ◌∙◌}
use Rattle.std.proofs.lemmas.Iterator.{YieldsList-from_slice}
use Rattle.std.proofs.lemmas.Iterator.Search.{all_from_yields_List}
use Rattle.lists.proofs.Tests.{every-list_all}
use Rattle.plan.specs.Numbers.{bad_radix, radices_fit}
use Rattle.plan.proofs.radices.radices_fit.Goals as goal

pub returns : goal.returns
unfolding radices_fit
returns c =
    let fits = λ (r : ℕ). not (bad_radix c.args.p r) in
    all_from_yields_List fits _ _ _ c.all.ensures.ran (YieldsList-from_slice c.args.radices.now cc) (λ x b q k. search (rules, tests))
    ∙ sym (every-list_all fits c.args.radices.now)
