-- `celerycrag::accepted` meets its contract: a prime of a plan is at most 251, and s not above it. Assumes nothing.
use native.Mathlib.Omega.{arith}
use Rattle.plan.proofs.Bounds.{prime-high}
use Rattle.celerycrag.proofs.accepted.Goals as goal

pub overflow_cast-result : goal.overflow_cast-result
overflow_cast-result c = omega (arith, prime-high c.requires)

pub overflow_cast-result-2 : goal.overflow_cast-result-2
overflow_cast-result-2 c = omega (arith, prime-high c.requires, c.requires.value-high)
