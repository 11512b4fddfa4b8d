-- `program::calls::check_writing` meets its contract: what `admit` refuses, else the writing's own refusal. Assumes nothing.
use mathlib.Core.Path.{sym, ◌∙◌}
use Rattle.std.proofs.lemmas.Result.{err_from_is_err_and}
use Rattle.plan.proofs.Admitting.{passing, turned-away}
use Rattle.program.proofs.calls.check_writing.Goals as goal

pub returns-in_err-plan : goal.returns-in_err-plan
returns-in_err-plan c =
    let p = err_from_is_err_and c.from_residual.result c.from_residual.ensures.1 in
    rw (p.1, p.2) (turned-away _ _ c.in_err-plan.ensures.answer _).0

pub returns : goal.returns
returns c = c.check_room.ensures ∙ sym ((passing _ _ c.in_ok-plan.plan c.in_ok-plan.ensures).rest _)
