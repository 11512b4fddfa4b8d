-- `general::rows_most` meets its contract. Assumes nothing.
use native.Mathlib.Omega.{arith}
use Rattle.std.proofs.lemmas.Grind.{common_steps}
use Rattle.laws.specs.Rank.{rows_most}
use Rattle.general.proofs.rows_most.Goals as goal

pub returns : goal.returns
unfolding rows_most
returns c = grind (arith, common_steps)
