-- `celerycrag::celery_file` meets its contract: a filing that is accepted has an accepted plan. Assumes nothing.
use mathlib.Core.Path.{sym}
use Rattle.plan.proofs.Refusals.{answer-gives}
use Rattle.plan.proofs.Admitting.{unrefused}
use Rattle.celerycrag.proofs.celery_file.Goals as goal

pub accepted-requires : goal.accepted-requires
accepted-requires c = (unrefused _ _ _ (answer-gives _ _ _ (sym c.in-Ok.ensures.answer)).0).within
