-- `program::writing::Writer::adds` meets its contract: after j turns the first j steps of the sum are written (`Placement`).
-- Assumes nothing.
use Rattle.lists.specs.Places.{at}
use Rattle.program.specs.Layout.{adds}
use Rattle.program.specs.Placed.{Wrote}
use Rattle.program.proofs.writing.Writer.adds.Given as goal

abbrev pub invariant-loop-j : goal.invariant-loop-j
invariant-loop-j l = Wrote l.initial.self (adds l.to (at l.weights) l.j) l.self
