-- `general::all_new` meets its contract: before entry i the work store is that of the entries before it, and each was New (`Working`). Assumes
-- nothing.
use Rattle.plan.specs.Lending.{whole}
use Rattle.general.proofs.Working.{Going}
use Rattle.general.proofs.all_new.Given as goal

abbrev pub invariant-loop-i : goal.invariant-loop-i
invariant-loop-i l = Going (whole l.plan) l.work l.i
