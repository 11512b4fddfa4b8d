-- `program::writing::Writer::links` meets its contract: after k turns the first k links are written, and link k's weights begin at `start`.
-- Assumes nothing.
use mathlib.Core.Path.{◌≡◌}
use Rattle.lists.specs.Places.{joined}
use Rattle.plan.specs.Parts.{link_start}
use Rattle.program.specs.Layout.{link_steps}
use Rattle.program.specs.Placed.{Wrote}
use Rattle.program.proofs.writing.Writer.links.Given as goal

abbrev pub invariant-loop-k : goal.invariant-loop-k
invariant-loop-k l = (l.start ≡ link_start l.source.plan l.k) × Wrote l.initial.self (joined (link_steps l.source.plan l.source.weights.now) l.k) l.self
