-- The laws of `sum`. Each is an induction on the number of terms; `omega` regroups the sums.
--     sum-zero, sum-next        no term; one term more, at the end
--     sum-none, sum-only        all terms zero; all terms zero but one
--     sum-ext                   equal terms make equal sums
--     sum-add, sum-mul          the sum of sums; a common factor on the right
--     sum-append, sum-blocks    a sum cut in two; a sum over b * l places by blocks of l
--     sum_mono                  more terms make no smaller sum
--     sum-le                    a bound of each term bounds the sum
-- Assumes nothing.
use mathlib.Core.Path.{◌≡◌, refl, sym, ap, ap₂, ◌∙◌}
use mathlib.Core.Logic.{◌≢◌}
use Prim.Native.Nat.{ℕ, zero, suc, ◌+◌, ◌-◌, ◌*◌, ◌≤◌, ◌<◌}
use native.Mathlib.Nat.{add-zero, zero-add, add-suc, le_step, lt-suc_self, not-suc-le-zero, zero-mul, suc-mul}
use native.Mathlib.Decide.{ℕ_discrete}
use native.Mathlib.Numerals.{add-one}
use native.Mathlib.Omega.{arith}
use Rattle.lists.specs.Places.{sum}

pub sum-zero : (f : ℕ → ℕ) → sum f 0 ≡ 0
unfolding sum
sum-zero f = refl

pub sum-suc : (f : ℕ → ℕ) (n : ℕ) → sum f (suc n) ≡ sum f n + f n
unfolding sum
sum-suc f n = refl

pub sum-next : (f : ℕ → ℕ) (n : ℕ) → sum f (n + 1) ≡ sum f n + f n
sum-next f n = rw (add-one, sum-suc)

pub sum-ext : (f g : ℕ → ℕ) (n : ℕ) → ((i : ℕ) → i < n → f i ≡ g i) → sum f n ≡ sum g n
unfolding sum
sum-ext f g zero h = refl
sum-ext f g (suc n) h = ap₂ ◌+◌ (sum-ext f g n (λ i l. h i (le_step l))) (h n (lt-suc_self n))

pub sum-add : (f g : ℕ → ℕ) (n : ℕ) → sum (λ i. f i + g i) n ≡ sum f n + sum g n
unfolding sum
sum-add f g zero = refl
sum-add f g (suc n) = omega (arith, sum-add f g n)

pub sum-mul : (f : ℕ → ℕ) (c n : ℕ) → sum (λ i. f i * c) n ≡ sum f n * c
unfolding sum
sum-mul f c zero = sym (zero-mul c)
sum-mul f c (suc n) = omega (arith, sum-mul f c n)

pub sum-append : (f : ℕ → ℕ) (a b : ℕ) → sum f (a + b) ≡ sum f a + sum (λ j. f (a + j)) b
unfolding sum
sum-append f a zero = rw add-zero (sym (add-zero (sum f a)))
sum-append f a (suc b) = rw add-suc (omega (arith, sum-append f a b))

pub sum_mono : (f : ℕ → ℕ) {a b : ℕ} → a ≤ b → sum f a ≤ sum f b
sum_mono f {a} {b} h =
    let e : a + (b - a) ≡ b = omega arith in
    omega (arith, sum-append f a (b - a), ap (sum f) e)

pub sum-blocks : (f : ℕ → ℕ) (b l : ℕ) → sum f (b * l) ≡ sum (λ i. sum (λ j. f (i * l + j)) l) b
unfolding sum
sum-blocks f zero l = ap (sum f) (zero-mul l)
sum-blocks f (suc b) l =
    ap (sum f) (suc-mul b l) ∙ sum-append f (b * l) l ∙ ap (λ (n : ℕ). n + sum (λ j. f (b * l + j)) l) (sum-blocks f b l)

pub sum-le : (f : ℕ → ℕ) (k n : ℕ) → ((i : ℕ) → i < n → f i ≤ k) → sum f n ≤ n * k
unfolding sum
sum-le f k zero h = omega arith
sum-le f k (suc n) h = omega (arith, sum-le f k n (λ i l. h i (le_step l)), h n (lt-suc_self n))

pub sum-none : (f : ℕ → ℕ) (n : ℕ) → ((i : ℕ) → i < n → f i ≡ 0) → sum f n ≡ 0
unfolding sum
sum-none f zero h = refl
sum-none f (suc n) h = ap₂ ◌+◌ (sum-none f n (λ i l. h i (le_step l))) (h n (lt-suc_self n))

pub sum-only : (f : ℕ → ℕ) (n i : ℕ) → i < n → ((j : ℕ) → j < n → j ≢ i → f j ≡ 0) → sum f n ≡ f i
unfolding sum
sum-only f zero i l h = absurd (not-suc-le-zero l)
sum-only f (suc n) i l h = elim (ℕ_discrete i n) [
  | yes e ↦
      ap₂ ◌+◌ (sum-none f n (λ j k. h j (le_step k) (λ d. omega arith))) (ap f (sym e)) ∙ zero-add (f i)
  | no d ↦
      ap₂ ◌+◌ (sum-only f n i (omega arith) (λ j k. h j (le_step k))) (h n (lt-suc_self n) (λ e. d (sym e))) ∙ add-zero (f i)
]
