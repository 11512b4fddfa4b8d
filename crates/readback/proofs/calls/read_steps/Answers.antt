-- `readback::calls::read_steps` meets its contract: what `admit` refuses, else cause 15 (`Admitting` of plan), and only the last return has
-- written beta. Assumes nothing.
use mathlib.Core.Path.{sym, ap, ◌∙◌}
use lib.ListN.{length}
use borrow.Author.Tests.{eqb-true}
use Rattle.std.proofs.lemmas.Result.{err_from_is_err_and}
use Rattle.plan.proofs.Admitting.{passing, turned-away}
use Rattle.readback.proofs.Places.{recovered-length}
use Rattle.readback.proofs.calls.read_steps.Goals as goal

pub returns-in_err-plan-clause-refusal : goal.returns-in_err-plan-clause-refusal
returns-in_err-plan-clause-refusal c =
    let p = err_from_is_err_and c.from_residual.result c.from_residual.ensures.1 in
    rw (p.1, p.2) (turned-away _ _ c.in_err-plan.ensures.answer _).0

pub returns-then-not-is_written-clause-refusal : goal.returns-then-not-is_written-clause-refusal
returns-then-not-is_written-clause-refusal c =
    sym ((passing _ _ c.in_ok-plan.plan c.in_ok-plan.ensures).rest _ ∙ rw (sym c.if-not-is_written.ensures.value))

pub copy_from_slice-requires : goal.copy_from_slice-requires
copy_from_slice-requires c =
    let plan = c.in_ok-plan.plan in
    let found = c.is_written.ensures.found_after c.if-not-is_written.false in
    eqb-true _ _ (passing _ _ plan c.in_ok-plan.ensures).own-fits ∙ sym (ap length found ∙ recovered-length plan.numbers c.args.steps.now)

pub returns-clause-refusal : goal.returns-clause-refusal
returns-clause-refusal c =
    sym ((passing _ _ c.in_ok-plan.plan c.in_ok-plan.ensures).rest _ ∙ rw (sym c.if-not-is_written.ensures.value))
