-- `plan::calls::check` meets its contract: what `admit` refuses, and no cause of its own (`Admitting`). Assumes nothing.
use mathlib.Core.Path.{sym}
use Rattle.std.proofs.lemmas.Result.{err_from_is_err_and}
use Rattle.plan.proofs.Admitting.{passing, turned-away}
use Rattle.plan.proofs.calls.check.Goals as goal

pub returns-in_err-admit : goal.returns-in_err-admit
returns-in_err-admit c =
    let p = err_from_is_err_and c.from_residual.result c.from_residual.ensures.1 in
    rw (p.1, p.2) (turned-away _ _ c.in_err-admit.ensures.answer _).0

pub returns : goal.returns
returns c = sym ((passing _ _ c.in_ok-admit.field-0 c.in_ok-admit.ensures).rest _)
