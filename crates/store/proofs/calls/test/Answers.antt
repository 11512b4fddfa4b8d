-- `store::calls::test` meets its contract: what `admit` refuses, else cause 6. Assumes nothing.
use mathlib.Core.Path.{sym, ap, ◌∙◌}
use borrow.Author.Tests.{eqb-true}
use Rattle.std.proofs.lemmas.Result.{err_from_is_err_and}
use Rattle.plan.specs.Parts.{store_size}
use Rattle.plan.proofs.Bounds.{modulus}
use Rattle.plan.proofs.Admitting.{passing, turned-away}
use Rattle.store.proofs.StoreCalls.{columns-small, reduced-told}
use Rattle.store.proofs.calls.test.Goals as goal

pub returns-in_err-plan : goal.returns-in_err-plan
returns-in_err-plan c =
    let p = err_from_is_err_and c.from_residual.result c.from_residual.ensures.1 in
    rw (p.1, p.2) (turned-away _ _ c.in_err-plan.ensures.answer _).0

pub is_reduced-requires : goal.is_reduced-requires
is_reduced-requires c =
    let plan = c.in_ok-plan.plan in
    let a = passing _ _ plan c.in_ok-plan.ensures in record {
      c_bound = columns-small _ plan.within c.columns.ensures;
      modulus = modulus plan.within;
      store_len = eqb-true _ _ a.own-fits ∙ ap store_size (sym c.columns.ensures);
    }

pub returns-then-not-is_reduced : goal.returns-then-not-is_reduced
returns-then-not-is_reduced c =
    let damaged = reduced-told _ _ c.if-not-is_reduced.ensures c.columns.ensures in
    sym ((passing _ _ c.in_ok-plan.plan c.in_ok-plan.ensures).rest _ ∙ rw damaged)

pub returns : goal.returns
returns c =
    let sound = reduced-told _ _ c.if-not-is_reduced.ensures c.columns.ensures in
    sym ((passing _ _ c.in_ok-plan.plan c.in_ok-plan.ensures).rest _ ∙ rw sound)
