-- The laws of `same`, the test of two lists.
--     same_refl, same_true      a list is the same as itself, and two that are the same are equal
--     same-unlike               lists of other lengths are not
--     same-snoc                 an element more at the end of both makes no difference
--     eq-same                   what `==` answers of two lists of numbers is the test `same`
-- Assumes nothing.
use mathlib.Core.Path.{◌≡◌, refl, ap, ap₂, ◌∙◌}
use mathlib.Core.Bool.{Bool, true, false, ◌&&◌, false≢true}
use mathlib.Core.List.{List, [], ◌∷◌, ◌++◌}
use Prim.Native.Nat.{ℕ}
use native.Mathlib.Omega.{arith}
use lib.Dec.{eqb}
use lib.ListN.{length, length-append}
use lib.Pointwise.{pointwise}
use borrow.Author.Tests.{eq-eqb, eqb-true}
use Rattle.lists.specs.Places.{same}
use Rattle.lists.proofs.Tests.{both_true, refute, and-false}

pub same_refl : (xs : List ℕ) → same xs xs ≡ true
unfolding same
same_refl [] = refl
same_refl (x ∷ xs) = rw (eq-eqb x x refl) (same_refl xs)

pub same_true : (xs ys : List ℕ) → same xs ys ≡ true → xs ≡ ys
unfolding same
same_true [] [] h = refl
same_true [] (y ∷ ys) h = absurd (false≢true h)
same_true (x ∷ xs) [] h = absurd (false≢true h)
same_true (x ∷ xs) (y ∷ ys) h =
    let b = both_true (eqb x y) (same xs ys) h in
    ap₂ ◌∷◌ (eqb-true x y b.0) (same_true xs ys b.1)

pub same-unlike : (xs ys : List ℕ) → (length xs ≡ length ys → ⊥) → same xs ys ≡ false
same-unlike xs ys h = refute (same xs ys) (λ e. h (ap length (same_true xs ys e)))

pub same-snoc : (c : ℕ) (xs ys : List ℕ) → same (xs ++ (c ∷ [])) (ys ++ (c ∷ [])) ≡ same xs ys
unfolding same
same-snoc c [] [] = rw (eq-eqb c c refl)
same-snoc c [] (y ∷ ys) = rw (same-unlike [] (ys ++ (c ∷ [])) (λ e. omega (arith, e, length-append ys (c ∷ [])))) (and-false (eqb c y))
same-snoc c (x ∷ xs) [] = rw (same-unlike (xs ++ (c ∷ [])) [] (λ e. omega (arith, e, length-append xs (c ∷ [])))) (and-false (eqb x c))
same-snoc c (x ∷ xs) (y ∷ ys) = ap (λ (b : Bool). eqb x y && b) (same-snoc c xs ys)

pub eq-same : (xs ys : List ℕ) → pointwise eqb xs ys ≡ same xs ys
unfolding same
eq-same [] [] = refl
eq-same [] (y ∷ ys) = refl
eq-same (x ∷ xs) [] = refl
eq-same (x ∷ xs) (y ∷ ys) = ap (λ (b : Bool). eqb x y && b) (eq-same xs ys)
