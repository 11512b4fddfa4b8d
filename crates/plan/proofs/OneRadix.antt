-- Where every digit has the radix s, entries and digits are those of 01: s^n entries, and n digits in radix s, the first the most
-- significant. So 02, C-11 leaves the base's plans as they were. Assumes nothing.
use mathlib.Core.Path.{◌≡◌, sym, ap, ap₂, ◌∙◌}
use mathlib.Core.List.{List}
use Prim.Native.Nat.{ℕ, zero, suc, ◌-◌, ◌*◌, ◌/◌, ◌%◌, ◌^◌, ◌<◌}
use native.Mathlib.Nat.{mul_comm, pow-zero, pow-suc}
use native.Mathlib.Omega.{arith}
use lib.ListN.{drop}
use Rattle.lists.specs.Places.{tab}
use Rattle.lists.proofs.Tabs.{tab-at}
use Rattle.plan.specs.Numbers.{product}
use Rattle.plan.specs.Rows.{digit}

abbrev alike : ℕ → ℕ → List ℕ
alike s n = tab n (λ _. s)

pub one-radix-entries : (s n : ℕ) → product (alike s n) ≡ s ^ n
unfolding product tab
one-radix-entries s zero = sym (pow-zero s)
one-radix-entries s (suc n) = ap (λ (z : ℕ). s * z) (one-radix-entries s n) ∙ mul_comm s (s ^ n) ∙ sym (pow-suc s n)

behind : (s n k : ℕ) → drop k (alike s n) ≡ alike s (n - k)
unfolding tab
behind s n zero = let e : n ≡ n - 0 = omega arith in ap (alike s) e
behind s zero (suc k) = let e : 0 ≡ 0 - suc k = omega arith in ap (alike s) e
behind s (suc n) (suc k) = let e : n - k ≡ suc n - suc k = omega arith in behind s n k ∙ ap (alike s) e

pub one-radix-digit : (s n i j : ℕ) → j < n → digit (alike s n) i j ≡ i / s ^ (n - suc j) % s
unfolding digit
one-radix-digit s n i j l =
    ap₂ (λ (a b : ℕ). i / a % b) (ap product (behind s n (suc j)) ∙ one-radix-entries s (n - suc j)) (tab-at n (λ _. s) 0 j l)
