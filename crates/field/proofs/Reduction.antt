-- Division by p through a product with B / p. With v below B, q = v * (B / p) / B is v / p or one less: B is m * p + e with e at most
-- p, so q loses less than v * e / (B * p), which is below 1. `cell` has B = 65536, and `remainder` has B = 4294967296.
-- Assumes nothing.
use mathlib.Core.Path.{◌≡◌, sym, ap, ◌∙◌}
use Prim.Native.Nat.{ℕ, ◌+◌, ◌-◌, ◌*◌, ◌/◌, ◌%◌, ◌≤◌, ◌<◌}
use native.Mathlib.Nat.{div-lt_iff_lt-mul, div-mul-le_self, lt-div-mul-add, mul-le-mul_left, mul-le-mul_right, le_of_mul-le-mul_right, lt_of_not-le}
use native.Mathlib.Omega.{arith}
use lib.Arith.{digits_mod}

module _ (B p v m q : ℕ) (hp : 0 < p) (hv : v < B) (hm : m ≡ B / p) (hq : q ≡ v * m / B) where
  base : 0 < B
  base = omega arith

  m-low : m * p ≤ B
  m-low = rw hm (div-mul-le_self B p)

  m-high : B < m * p + p
  m-high = rw hm (lt-div-mul-add hp)

  q-low : q * B ≤ v * m
  q-low = rw hq (div-mul-le_self (v * m) B)

  q-high : v * m < q * B + B
  q-high = rw hq (lt-div-mul-add base)

  pub quotient-low : q * p ≤ v
  quotient-low =
      let a : q * p * B ≤ v * B = omega (arith, mul-le-mul_right p q-low, mul-le-mul_left v m-low) in
      le_of_mul-le-mul_right a base

  pub quotient-high : v < q * p + (p + p)
  quotient-high = lt_of_not-le (λ (h : q * p + (p + p) ≤ v).
      let e : ℕ = B - m * p in
      let me : m * p + e ≡ B = omega (arith, m-low) in
      let ep : e ≤ p = omega (arith, m-high) in
      omega (arith, q-high, ap (λ (n : ℕ). q * n) me, mul-le-mul_left q ep, mul-le-mul_right m h))

  -- one conditional subtraction gives the remainder
  pub below : v - q * p < p → v - q * p ≡ v % p
  below h =
      let e : q * p + (v - q * p) ≡ v = omega (arith, quotient-low) in
      sym (digits_mod q h) ∙ ap (λ (n : ℕ). n % p) e

  pub above : p ≤ v - q * p → v - q * p - p ≡ v % p
  above h =
      let l : v - q * p - p < p = omega (arith, quotient-high) in
      let e : (q + 1) * p + (v - q * p - p) ≡ v = omega (arith, quotient-low) in
      sym (digits_mod (q + 1) l) ∙ ap (λ (n : ℕ). n % p) e

pub reciprocal-small : (B p m : ℕ) → 0 < B → 2 ≤ p → m ≡ B / p → m < B
reciprocal-small B p m base h e =
    let pos : 0 < p = omega arith in
    let l : B < B * p = omega (arith, mul-le-mul_left B h) in
    rw e ((div-lt_iff_lt-mul pos).1 l)
