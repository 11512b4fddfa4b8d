-- `program::writing::step_count` meets its contract: the numbers are small, and m(2n+m+3) is twice m(n+2) plus m(m-1).
-- Assumes nothing.
use native.Mathlib.Omega.{arith}
use Rattle.program.specs.Layout.{step_count}
use Rattle.program.proofs.Shape.{one_less}
use Rattle.program.proofs.writing.step_count.Goals as goal

pub returns : goal.returns
unfolding step_count
returns c = rw c.variables-l.ensures (omega (arith, one_less c.args.plan.m))
