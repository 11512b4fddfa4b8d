-- `general::general` meets its contract: what `admit` refuses, else what the test says, and the work store is cleared before and after.
-- Assumes nothing.
use mathlib.Core.Path.{sym, ap, ◌∙◌}
use borrow.Author.Tests.{eqb-true}
use Rattle.std.specs.Prelude.{◌≡◌, ℕ, [], length, replicate}
use Rattle.std.proofs.lemmas.Result.{err_from_is_err_and}
use native.Mathlib.Omega.{arith}
use Rattle.plan.proofs.Refusals.{refused-answer}
use Rattle.plan.proofs.Admitting.{passing, turned-away}
use Rattle.store.proofs.StoreCalls.{cleared-work, refused-call}
use Rattle.general.proofs.Answers.{suited-call}
use Rattle.general.proofs.general.Goals as goal

pub returns-in_err-plan-clause-answer : goal.returns-in_err-plan-clause-answer
returns-in_err-plan-clause-answer c =
    let r = turned-away _ _ c.in_err-plan.ensures.answer _ in
    let p = err_from_is_err_and c.from_residual.result c.from_residual.ensures.1 in
    rw (p.1, p.2) (refused-answer _ _ _ r.0 r.1)

pub returns-in_err-plan-clause-work_after : goal.returns-in_err-plan-clause-work_after
returns-in_err-plan-clause-work_after c =
    let r = turned-away _ _ c.in_err-plan.ensures.answer _ in
    (refused-call _ _ [] _ _ r.0 r.1).1

pub all_new-suits-requires : goal.all_new-suits-requires
all_new-suits-requires c =
    let fits = eqb-true _ _ (passing _ _ c.in_ok-plan.plan c.in_ok-plan.ensures).own-fits in
    c.fill.ensures.after (λ y e. e) ∙ ap (λ (n : ℕ). replicate n 0) fits

pub returns : goal.returns
returns c =
    let a = passing _ _ c.in_ok-plan.plan c.in_ok-plan.ensures in
    let tested = c.all_new-suits in
    let P = c.in_ok-plan.plan.numbers in
    let long : length c.fill-2.new.self ≡ length c.args.work.now = omega arith in
    let emptied = cleared-work P (length tested.new.work) _ c.args.work.now (c.fill-2.ensures.after (λ y e. e)) long (eqb-true _ _ a.own-fits) in
    let all = suited-call _ _ _ tested.result _ _ (sym c.in_ok-plan.ensures.same) (a.rest _) tested.ensures emptied in record {
      answer = all.0;
      work_after = all.1;
    }
