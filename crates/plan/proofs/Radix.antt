-- The radices and their product.
--     radix-facts                                  what the test of one radix says, and of s
--     radices-at, radices-positive                 the test of the radices says that each is 2 to p, so none is 0
--     product-next, product-split, product-drop    the product with a radix more at the end, cut in two, and with its first radix apart
--     product-front, drop-positive                 no product of the first radices is above it; that of the last ones is not 0
-- Assumes nothing.
use mathlib.Core.Path.{◌≡◌, refl, sym, ap, ◌∙◌}
use mathlib.Core.Bool.{Bool, true, false, not, ◌||◌, true≢false}
use mathlib.Core.List.{List, [], ◌∷◌, ◌++◌}
use Prim.Native.Nat.{ℕ, suc, ◌+◌, ◌-◌, ◌*◌, ◌≤◌, ◌<◌}
use native.Mathlib.Nat.{mul_assoc, mul-one, one-mul, mul-le-mul_left}
use native.Mathlib.Numerals.{add-one}
use native.Mathlib.Omega.{arith}
use lib.Dec.{ltb}
use lib.ListN.{length, take, drop, length-drop, take-append-drop}
use lib.Seq.{take-suc, drop-cons, get_or-drop}
use borrow.Author.Tests.{ltb-false, not-true}
use Rattle.lists.specs.Places.{at}
use Rattle.lists.proofs.Tests.{every-at}
use Rattle.plan.specs.Numbers.{product, bad_radix, radices_fit}

pub neither : (a b : Bool) → (a || b) ≡ false → (a ≡ false) × (b ≡ false)
neither true b h = absurd (true≢false h)
neither false b h = (refl, h)

pub radix-facts : (p r : ℕ) → bad_radix p r ≡ false → (2 ≤ r) × (r ≤ p)
unfolding bad_radix
radix-facts p r h = let hs = neither (ltb r 2) (ltb p r) h in (ltb-false r 2 hs.0, ltb-false p r hs.1)

module _ (p : ℕ) (R : List ℕ) (fit : radices_fit p R ≡ true) where
  pub radices-at : (j : ℕ) → j < length R → (2 ≤ at R j) × (at R j ≤ p)
  unfolding radices_fit
  radices-at j l =
      radix-facts p (at R j) (not-true (bad_radix p (at R j)) (every-at (λ i. not (bad_radix p (at R i))) (length R) fit j l))

  pub radices-positive : (j : ℕ) → j < length R → 0 < at R j
  radices-positive j l = omega (arith, (radices-at j l).0)

product-append : (a b : List ℕ) → product (a ++ b) ≡ product a * product b
unfolding product
product-append [] b = sym (one-mul (product b))
product-append (r ∷ a) b = ap (λ (z : ℕ). r * z) (product-append a b) ∙ sym (mul_assoc r (product a) (product b))

pub product-next : (R : List ℕ) (i : ℕ) → i < length R → product (take (i + 1) R) ≡ product (take i R) * at R i
unfolding product
product-next R i l =
    ap product (ap (λ (n : ℕ). take n R) (add-one i) ∙ take-suc R i 0 l)
    ∙ product-append (take i R) (at R i ∷ [])
    ∙ ap (λ (z : ℕ). product (take i R) * z) (mul-one (at R i))

pub product-split : (R : List ℕ) (i : ℕ) → product (take i R) * product (drop i R) ≡ product R
product-split R i = sym (product-append (take i R) (drop i R)) ∙ ap product (take-append-drop i R)

pub product-drop : (R : List ℕ) (j : ℕ) → j < length R → product (drop j R) ≡ at R j * product (drop (suc j) R)
unfolding product
product-drop R j l = ap product (drop-cons R j 0 l)

product-positive : (R : List ℕ) → ((j : ℕ) → j < length R → 0 < at R j) → 0 < product R
unfolding product
product-positive [] h = omega arith
product-positive (r ∷ R) h =
    let a : 1 ≤ r = h 0 (omega arith) in
    let b : 1 ≤ product R = product-positive R (λ j l. h (suc j) (omega arith)) in
    omega (arith, mul-le-mul_left r b)

module _ (R : List ℕ) (positive : (j : ℕ) → j < length R → 0 < at R j) where
  pub drop-positive : (j : ℕ) → 0 < product (drop j R)
  drop-positive j =
      product-positive (drop j R)
      (λ i l. let l' : i < length R - j = rw length-drop at l in rw get_or-drop (positive (j + i) (omega arith)))

  pub product-front : (i : ℕ) → product (take i R) ≤ product R
  product-front i =
      let some : 1 ≤ product (drop i R) = drop-positive i in
      omega (arith, product-split R i, mul-le-mul_left (product (take i R)) some)
