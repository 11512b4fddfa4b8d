-- Decimal digits: a number below 10 is its digit, and any other is the digits of its tenth part and the last one.
--     decimal-one, decimal-next      the two cases, for a number of 64 bits
--     decimal-short                  a number below 10 ^ (k + 1) has at most k + 1 digits
--     decimal-most                   at most 20 digits
--     decimal-tenth, decimal-small   at most 19 for the tenth part of a number of 64 bits, and at most 3 below 1,000
-- Assumes nothing.
use mathlib.Core.Path.{◌≡◌, sym, ap, ◌∙◌}
use mathlib.Core.List.{List, [], ◌∷◌, ◌++◌}
use Prim.Native.Nat.{ℕ, zero, suc, ◌+◌, ◌/◌, ◌%◌, ◌^◌, ◌≤◌, ◌<◌}
use native.Mathlib.Nat.{mod-eq_of_lt, pow-suc}
use native.Mathlib.Decide.{dec_lt}
use native.Mathlib.Omega.{arith}
use lib.ListN.{length, length-append}
use borrow.Author.Tests.{lt-ltb, le-ltb}
use Rattle.listing.specs.Decimal.{digits_of, decimal}

digits-one : (most n : ℕ) → n < 10 → digits_of most n ≡ (48 + n) ∷ []
unfolding digits_of
digits-one zero n h = ap (λ (d : ℕ). (48 + d) ∷ []) (mod-eq_of_lt h)
digits-one (suc most) n h = rw (lt-ltb n 10 h)

digits-next : (most n : ℕ) → 10 ≤ n → digits_of (suc most) n ≡ digits_of most (n / 10) ++ ((48 + n % 10) ∷ [])
unfolding digits_of
digits-next most n h = rw (le-ltb n 10 h)

-- a bound of one digit more leaves the digits as they are where they are all there
digits_more : (most n : ℕ) → n < 10 ^ suc most → digits_of (suc most) n ≡ digits_of most n
digits_more zero n h = digits-one 1 n h ∙ sym (digits-one 0 n h)
digits_more (suc most) n h = elim (dec_lt n 10) [
  | yes l ↦ digits-one (suc (suc most)) n l ∙ sym (digits-one (suc most) n l)
  | no l ↦
      let far : 10 ≤ n = omega arith in
      let tenth : n / 10 < 10 ^ suc most = omega (arith, pow-suc 10 (suc most)) in
      digits-next (suc most) n far
      ∙ ap (λ (ds : List ℕ). ds ++ ((48 + n % 10) ∷ [])) (digits_more most (n / 10) tenth)
      ∙ sym (digits-next most n far)
]

pub decimal-one : (n : ℕ) → n < 10 → decimal n ≡ (48 + n) ∷ []
unfolding decimal
decimal-one n h = digits-one 19 n h

pub decimal-next : (n : ℕ) → 10 ≤ n → n < 2 ^ 64 → decimal n ≡ decimal (n / 10) ++ ((48 + n % 10) ∷ [])
unfolding decimal
decimal-next n h fits =
    digits-next 18 n h ∙ ap (λ (ds : List ℕ). ds ++ ((48 + n % 10) ∷ [])) (sym (digits_more 18 (n / 10) (omega arith)))

digits-short : (most k n : ℕ) → n < 10 ^ suc k → length (digits_of most n) ≤ suc k
unfolding digits_of
digits-short zero k n h = omega arith
digits-short (suc most) zero n h = rw (digits-one (suc most) n h) (omega arith)
digits-short (suc most) (suc k) n h = elim (dec_lt n 10) [
  | yes l ↦ rw (digits-one (suc most) n l) (omega arith)
  | no l ↦
      let tenth : n / 10 < 10 ^ suc k = omega (arith, pow-suc 10 (suc k)) in
      rw (digits-next most n (omega arith), length-append) (omega (arith, digits-short most k (n / 10) tenth))
]

pub decimal-short : (k n : ℕ) → n < 10 ^ suc k → length (decimal n) ≤ suc k
unfolding decimal
decimal-short k n h = digits-short 19 k n h

digits-most : (most n : ℕ) → length (digits_of most n) ≤ suc most
unfolding digits_of
digits-most zero n = omega arith
digits-most (suc most) n = elim (dec_lt n 10) [
  | yes l ↦ rw (digits-one (suc most) n l) (omega arith)
  | no l ↦ rw (digits-next most n (omega arith), length-append) (omega (arith, digits-most most (n / 10)))
]

pub decimal-most : (n : ℕ) → length (decimal n) ≤ 20
unfolding decimal
decimal-most n = digits-most 19 n

pub decimal-tenth : (n : ℕ) → n < 2 ^ 64 → length (decimal (n / 10)) ≤ 19
decimal-tenth n h = decimal-short 18 (n / 10) (omega arith)

pub decimal-small : (n : ℕ) → n < 1000 → length (decimal n) ≤ 3
decimal-small n h = decimal-short 2 n h
