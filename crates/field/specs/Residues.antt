-- Arithmetic modulo p (01, "The plan": p, and "All are residues 0 to p−1"), and the two tables of 01, "The written program", that make a
-- product of two bootstraps.
--     Modulus p        2 ≤ p ≤ 251: what the arithmetic needs of p; that p is prime is asked only where inverses are used
--     Residues p xs    each place of xs is below p ("All are residues 0 to p−1")
--     inverse p a      a to the power p - 2, modulo p: for a prime p the inverse of a
--     square p z       01's table m: "holds at z the square of z times the inverse of 4"
--     minus_square p z  01's table m+1: "the negative of that, both modulo p"
use Rattle.std.specs.Prelude.{ℕ, ◌-◌, ◌*◌, ◌%◌, ◌^◌, ◌≤◌, ◌<◌, List}
use Rattle.lists.specs.Places.{at}

abbrev pub Modulus : ℕ → Type 0
Modulus p = (2 ≤ p) × (p ≤ 251)

abbrev pub Residues : ℕ → List ℕ → Type 0
Residues p xs = (i : ℕ) → at xs i < p

unfoldable pub inverse : ℕ → ℕ → ℕ
inverse p a = a ^ (p - 2) % p

unfoldable pub square : ℕ → ℕ → ℕ
square p z = z * z * inverse p 4 % p

unfoldable pub minus_square : ℕ → ℕ → ℕ
minus_square p z = (p - square p z) % p
