-- `program::calls::write_into` meets its contract: what `admit` refuses, else the writing's own refusal, and only the last return has
-- written. Assumes nothing.
use mathlib.Core.Path.{sym, ◌∙◌}
use native.Mathlib.Omega.{arith}
use lib.ListN.{length}
use borrow.Author.Tests.{eqb-true}
use Rattle.std.proofs.lemmas.Result.{err_from_is_err_and}
use Rattle.plan.proofs.Admitting.{passing, turned-away}
use Rattle.program.proofs.Answers.{writing-fits}
use Rattle.program.proofs.Shape.{layout-length}
use Rattle.program.proofs.calls.write_into.Goals as goal

pub returns-in_err-plan-clause-refusal : goal.returns-in_err-plan-clause-refusal
returns-in_err-plan-clause-refusal c =
    let p = err_from_is_err_and c.from_residual.result c.from_residual.ensures.1 in
    rw (p.1, p.2) (turned-away _ _ c.in_err-plan.ensures.answer _).0

pub returns-in_err-check_room-clause-refusal : goal.returns-in_err-check_room-clause-refusal
returns-in_err-check_room-clause-refusal c =
    let p = err_from_is_err_and c.from_residual-in_err-check_room.result c.from_residual-in_err-check_room.ensures.1 in
    rw (p.1, p.2) (c.in_err-check_room.ensures ∙ sym ((passing _ _ c.in_ok-plan.plan c.in_ok-plan.ensures).rest _))

pub put_program-requires-clause-d_len : goal.put_program-requires-clause-d_len
put_program-requires-clause-d_len c =
    let plan = c.in_ok-plan.plan in
    (plan.lent.products-length, eqb-true _ _ (passing _ _ plan c.in_ok-plan.ensures).own-fits)

pub put_program-requires-clause-room : goal.put_program-requires-clause-room
put_program-requires-clause-room c =
    let plan = c.in_ok-plan.plan in
    let fits = writing-fits plan.numbers c.args.beta.now (length c.args.steps.now) (sym c.in_ok-check_room.ensures) in
    omega (arith, fits, layout-length plan.numbers plan.weights.now plan.products.now c.args.beta.now)

pub returns-clause-refusal : goal.returns-clause-refusal
returns-clause-refusal c = c.in_ok-check_room.ensures ∙ sym ((passing _ _ c.in_ok-plan.plan c.in_ok-plan.ensures).rest _)
