-- `readback::scanning::scan_steps` meets its contract: a turn reads one line (`Scanlines`) and keeps its numbers (`Keeping`). Assumes nothing.
use Prim.Native.Nat.{◌+◌}
use Rattle.readback.proofs.LineCuts.{Cutting}
use Rattle.readback.proofs.scanning.scan_steps.Given as goal

abbrev pub invariant-loop-i : goal.invariant-loop-i
invariant-loop-i l = Cutting l.text l.from l.steps l.i-iterator.iter.rest.now (4 + l.i-iterator.count) l.count
