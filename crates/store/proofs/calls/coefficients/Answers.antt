-- `store::calls::coefficients` meets its contract: what `admit` refuses, else cause 6, and only the last return has written. Assumes nothing.
use mathlib.Core.Path.{sym, ap, ◌∙◌}
use borrow.Author.Tests.{eqb-true}
use Rattle.std.specs.Prelude.{ℕ}
use Rattle.std.proofs.lemmas.Result.{err_from_is_err_and}
use Rattle.plan.specs.Numbers.{columns}
use Rattle.plan.specs.Parts.{Given, store_size}
use Rattle.plan.proofs.Bounds.{modulus}
use Rattle.plan.proofs.Admitting.{passing, turned-away}
use Rattle.lists.proofs.Tests.{both_true}
use Rattle.store.specs.Calls.{coefficients}
use Rattle.store.proofs.StoreCalls.{columns-small, reduced-told}
use Rattle.store.proofs.calls.coefficients.Goals as goal

pub returns-in_err-plan-clause-refusal : goal.returns-in_err-plan-clause-refusal
returns-in_err-plan-clause-refusal c =
    let p = err_from_is_err_and c.from_residual.result c.from_residual.ensures.1 in
    rw (p.1, p.2) (turned-away _ _ c.in_err-plan.ensures.answer _).0

pub is_reduced-requires : goal.is_reduced-requires
is_reduced-requires c =
    let plan = c.in_ok-plan.plan in
    let a = passing _ _ plan c.in_ok-plan.ensures in record {
      c_bound = columns-small _ plan.within c.columns-c.ensures;
      modulus = modulus plan.within;
      store_len = eqb-true _ _ (both_true _ _ a.own-fits).0 ∙ ap store_size (sym c.columns-c.ensures);
    }

pub returns-then-not-is_reduced-clause-refusal : goal.returns-then-not-is_reduced-clause-refusal
returns-then-not-is_reduced-clause-refusal c =
    let damaged = reduced-told _ _ c.if-not-is_reduced.ensures c.columns-c.ensures in
    sym ((passing _ _ c.in_ok-plan.plan c.in_ok-plan.ensures).rest _ ∙ rw damaged)

pub read_off-requires : goal.read_off-requires
read_off-requires c =
    let plan = c.in_ok-plan.plan in
    let fits = both_true _ _ (passing _ _ plan c.in_ok-plan.ensures).own-fits in record {
      c_bound = columns-small _ plan.within c.columns-c.ensures;
      store_len = eqb-true _ _ fits.0 ∙ ap store_size (sym c.columns-c.ensures);
      beta_len = eqb-true _ _ fits.1 ∙ sym c.columns-c.ensures;
    }

pub returns-clause-refusal : goal.returns-clause-refusal
returns-clause-refusal c =
    let sound = reduced-told _ _ c.if-not-is_reduced.ensures c.columns-c.ensures in
    sym ((passing _ _ c.in_ok-plan.plan c.in_ok-plan.ensures).rest _ ∙ rw sound)

pub returns-clause-beta_after : goal.returns-clause-beta_after
returns-clause-beta_after c =
    c.read_off.ensures
    ∙ ap (λ (n : ℕ). coefficients n c.args.store.now) (c.columns-c.ensures ∙ ap (λ (G : Given). columns G.numbers) c.in_ok-plan.ensures.same)
