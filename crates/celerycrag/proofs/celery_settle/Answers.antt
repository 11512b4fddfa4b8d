-- `celerycrag::celery_settle` meets its contract: an entry that is settled has an accepted plan. Assumes nothing.
use mathlib.Core.Path.{sym}
use Rattle.plan.proofs.Refusals.{answer-gives}
use Rattle.plan.proofs.Admitting.{unrefused}
use Rattle.celerycrag.proofs.celery_settle.Goals as goal

pub accepted-plan-requires : goal.accepted-plan-requires
accepted-plan-requires c = (unrefused _ _ _ (answer-gives _ _ _ (sym c.in-Ok.ensures)).0).within
