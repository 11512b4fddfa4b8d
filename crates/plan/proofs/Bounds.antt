-- What a checked plan's limits say of its numbers and lengths, for the functions that compute with them.
--     prime-low, prime-high, modulus     3 ≤ p ≤ 251
--     link-weights                       the number of link weights in closed form
-- Assumes nothing.
use mathlib.Core.Path.{◌≡◌, ap}
use Prim.Native.Nat.{ℕ, zero, suc, ◌+◌, ◌-◌, ◌*◌, ◌/◌, ◌≤◌}
use native.Mathlib.Omega.{arith}
use Rattle.lists.specs.Places.{sum}
use Rattle.lists.proofs.Sums.{sum-zero, sum-suc}
use Rattle.field.specs.Residues.{Modulus}
use Rattle.field.proofs.PrimeTable.{odd_prime-means}
use Rattle.plan.specs.Numbers.{Within}
use Rattle.plan.specs.declared.numbers.Plan.{Plan}

pub prime-low : {P : Plan} → Within P → 3 ≤ P.p
prime-low {P} w = ((odd_prime-means P.p).0 w.prime).0

pub prime-high : {P : Plan} → Within P → P.p ≤ 251
prime-high {P} w = ((odd_prime-means P.p).0 w.prime).1

pub modulus : {P : Plan} → Within P → Modulus P.p
modulus w = (omega (arith, prime-low w), prime-high w)

doubled : (n m : ℕ) → 2 * sum (λ i. n + i) m + m ≡ m * (2 * n + m)
doubled n zero = rw sum-zero (omega arith)
doubled n (suc m) = rw sum-suc (omega (arith, doubled n m))

pub link-weights : (n m : ℕ) → 1 ≤ n → m * (2 * n + m - 1) / 2 ≡ sum (λ i. n + i) m
link-weights n m h =
    let k : ℕ = 2 * n + m - 1 in
    let e : 2 * n + m ≡ k + 1 = omega arith in
    let twice : m * k ≡ 2 * sum (λ i. n + i) m = omega (arith, doubled n m, ap (λ (x : ℕ). m * x) e) in
    omega (arith, twice)
