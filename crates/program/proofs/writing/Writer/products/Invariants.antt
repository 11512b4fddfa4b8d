-- `program::writing::Writer::products` meets its contract: after i turns the first i products are written. Assumes nothing.
use Rattle.lists.specs.Places.{joined}
use Rattle.program.specs.Layout.{product_steps}
use Rattle.program.specs.Placed.{Wrote}
use Rattle.program.proofs.writing.Writer.products.Given as goal

abbrev pub invariant-loop-i : goal.invariant-loop-i
invariant-loop-i l = Wrote l.initial.self (joined (product_steps l.source.plan l.source.d.now l.source.beta.now) l.i) l.self
