-- The laws of `largest`.
--     largest-none, largest-next     no value; one value more
--     largest-turn                   a loop's turn: the largest so far, made the larger of itself and the next value
--     largest-le                     a bound of each value bounds the largest
-- Assumes nothing.
use mathlib.Core.Path.{◌≡◌, refl, sym, ap, ap₂, ◌∙◌}
use Prim.Native.Nat.{ℕ, zero, suc, ◌+◌, ◌≤◌, ◌<◌, max}
use native.Mathlib.Nat.{le_step, lt-suc_self}
use native.Mathlib.Numerals.{add-one}
use native.Mathlib.Omega.{arith}
use Rattle.lists.specs.Places.{largest}

pub largest-none : (f : ℕ → ℕ) → 0 ≡ largest f 0
unfolding largest
largest-none f = refl

pub largest-next : (f : ℕ → ℕ) (n : ℕ) → largest f (n + 1) ≡ max (largest f n) (f n)
unfolding largest
largest-next f n = ap (largest f) (add-one n)

pub largest-turn : (f : ℕ → ℕ) (k top v next : ℕ) → top ≡ largest f k → v ≡ f k → next ≡ max top v → next ≡ largest f (k + 1)
largest-turn f k top v next ht hv hn = hn ∙ ap₂ max ht hv ∙ sym (largest-next f k)

pub largest-le : (f : ℕ → ℕ) (k n : ℕ) → ((i : ℕ) → i < n → f i ≤ k) → largest f n ≤ k
unfolding largest
largest-le f k zero h = omega arith
largest-le f k (suc n) h = omega (arith, largest-le f k n (λ i l. h i (le_step l)), h n (lt-suc_self n))
