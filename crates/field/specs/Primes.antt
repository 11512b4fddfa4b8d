-- 01, "The plan": "p is an odd prime from 3 to 251." Stands on `every` of `lists`.
--     Prime p       p is above 1, and no d with 1 < d < p divides it
--     is_prime p    the same as a test
--     odd_prime p   p is an odd prime from 3 to 251, as a test; `Rattle.field.proofs.PrimeTable.odd_prime-means` says that it is
use Rattle.std.specs.Prelude.{◌≡◌, Bool, ◌&&◌, not, ℕ, ◌+◌, ◌-◌, ◌%◌, ◌<◌, eqb, leb, ltb}
use Rattle.lists.specs.Places.{every}

abbrev pub Prime : ℕ → Type 0
Prime p = (1 < p) × ((d : ℕ) → 1 < d → d < p → p % d ≡ 0 → ⊥)

unfoldable pub is_prime : ℕ → Bool
is_prime p = ltb 1 p && every (λ k. not (eqb (p % (k + 2)) 0)) (p - 2)

unfoldable pub odd_prime : ℕ → Bool
odd_prime p = (leb 3 p && leb p 251) && is_prime p
