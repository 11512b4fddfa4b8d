-- Every residue but 0 times its inverse leaves 1, for all p together: one test that antt computes for each prime and each residue, and the
-- law that carries it to any of them. The inverse of 4 has a test of its own, since 4 is no residue of 3.
-- Assumes nothing.
use mathlib.Core.Path.{◌≡◌, refl}
use mathlib.Core.Bool.{Bool, true, not, ◌||◌}
use Prim.Native.Nat.{ℕ, ◌+◌, ◌-◌, ◌*◌, ◌%◌, ◌<◌}
use native.Mathlib.Omega.{arith}
use lib.Dec.{eqb}
use borrow.Author.Tests.{eqb-true}
use Rattle.lists.specs.Places.{every}
use Rattle.lists.proofs.Tests.{every-at}
use Rattle.field.specs.Primes.{is_prime, odd_prime}
use Rattle.field.specs.Residues.{inverse}
use Rattle.field.proofs.PrimeTable.{for-each-prime}

leaves-one : ℕ → ℕ → Bool
leaves-one p k = eqb ((k + 1) * inverse p (k + 1) % p) 1

all-residues : ℕ → Bool
all-residues p = every (leaves-one p) (p - 1)

tested : every (λ p. not (odd_prime p) || all-residues p) 252 ≡ true
unfolding every is_prime odd_prime inverse leaves-one all-residues
tested = refl

quarter-tested : every (λ p. not (odd_prime p) || eqb (4 * inverse p 4 % p) 1) 252 ≡ true
unfolding every is_prime odd_prime inverse
quarter-tested = refl

pub inverse-leaves-one : (p a : ℕ) → odd_prime p ≡ true → 0 < a → a < p → (a * inverse p a) % p ≡ 1
unfolding all-residues leaves-one
inverse-leaves-one p a prime low high =
    let k : a - 1 + 1 ≡ a = omega arith in
    rw k at
    (eqb-true ((a - 1 + 1) * inverse p (a - 1 + 1) % p) 1
    (every-at (leaves-one p) (p - 1) (for-each-prime all-residues tested p prime) (a - 1) (omega arith)))

pub quarter : (p : ℕ) → odd_prime p ≡ true → (4 * inverse p 4) % p ≡ 1
quarter p prime = eqb-true (4 * inverse p 4 % p) 1 (for-each-prime (λ q. eqb (4 * inverse q 4 % q) 1) quarter-tested p prime)
