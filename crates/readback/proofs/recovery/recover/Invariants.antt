-- `readback::recovery::recover` meets its contract: a turn writes row b behind the rows before it (`Recovering`). Assumes nothing.
use Rattle.readback.proofs.Recovering.{Rows}
use Rattle.readback.proofs.recovery.recover.Given as goal

abbrev pub invariant-loop-b : goal.invariant-loop-b
invariant-loop-b live = Rows live.plan live.steps live.initial.found live.b live.found
