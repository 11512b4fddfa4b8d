-- `plan::numbers::Plan::new` meets its contract: p and s are at most 251, so they fit their type, and no radix that passed is 0. Assumes nothing.
use mathlib.Core.Path.{sym}
use native.Mathlib.Omega.{arith}
use borrow.Author.Tests.{not-true}
use Rattle.field.proofs.PrimeTable.{odd_prime-means}
use Rattle.plan.proofs.Radix.{radix-facts, radices-positive}
use Rattle.plan.proofs.numbers.Plan.new.Goals as goal

pub overflow_cast-prime : goal.overflow_cast-prime
overflow_cast-prime c = omega (arith, (odd_prime-means _).0 (sym c.if-not-is_odd_prime.ensures))

pub product-requires : goal.product-requires
product-requires c = radices-positive _ _ (sym c.if-not-radices_fit.ensures)

pub overflow_cast-result : goal.overflow_cast-result
overflow_cast-result c =
    omega (arith, (odd_prime-means _).0 (sym c.if-not-is_odd_prime.ensures), radix-facts _ _ (not-true _ (sym c.if-not-radix_fits.ensures)))
