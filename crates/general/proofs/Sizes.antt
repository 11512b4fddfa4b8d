-- The number of filings that can be New, as the code computes it.
--     rows-limit       q, the smaller of t and L, within the limits of a plan
--     product-limit    so no product of it is large
--     half-below       what is subtracted is not more than what it is subtracted from
--     most-is          (q + 1) L + q - q (q + 1) / 2 is (q + 1) L - q (q - 1) / 2
-- Assumes nothing.
use mathlib.Core.Path.{◌≡◌, refl}
use Prim.Native.Nat.{ℕ, zero, suc, ◌+◌, ◌-◌, ◌*◌, ◌/◌, ◌≤◌}
use native.Mathlib.Nat.{mul-le-mul, mul-le-mul_right}
use native.Mathlib.Omega.{arith}
use Rattle.plan.specs.declared.numbers.Plan.{Plan}
use Rattle.plan.specs.Numbers.{variables, Within}
use Rattle.laws.specs.Rank.{rows_most}
use Rattle.laws.proofs.RankBound.{smaller-below}

pub rows-limit : (P : Plan) → Within P → (rows_most P ≤ 32) × (rows_most P ≤ variables P)
unfolding rows_most
rows-limit P within =
    let least = smaller-below P.t (variables P) in
    (omega (arith, least.0, within.products-limit), least.1)

pub product-limit : (a b : ℕ) → a ≤ 33 → b ≤ 64 → a * b ≤ 2112
product-limit a b h k = mul-le-mul h k

pub half-below : (q l : ℕ) → q ≤ l → q * (q + 1) / 2 ≤ (q + 1) * l + q
half-below q l h = omega (arith, mul-le-mul_right (q + 1) h)

pub most-is : (q l : ℕ) → (q + 1) * l + q - q * (q + 1) / 2 ≡ (q + 1) * l - q * (q - 1) / 2
most-is q l = omega (arith, next q)
  where
    next : (q : ℕ) → q * (q + 1) ≡ q * (q - 1) + 2 * q
    next zero = refl
    next (suc k) = let e : suc k - 1 ≡ k = omega arith in rw e (omega arith)
