-- `readback::scanning::keep_step` meets its contract: the numbers are put one by one behind those that are there (`Keeping`). Assumes nothing.
use Rattle.readback.proofs.Keeping.{Putting}
use Rattle.readback.proofs.scanning.keep_step.Given as goal

abbrev pub invariant-loop-i : goal.invariant-loop-i
invariant-loop-i l = Putting l.v l.initial.steps l.before l.i l.steps
