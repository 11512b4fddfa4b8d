-- Bytes below p, room for products, and rows that nothing raises.
--     below-joined       a maximum is below a bound exactly when both numbers are
--     largest-below      the largest of a list is below a bound exactly when each number is
--     residues-of, below_of     the test `all_below` says `Residues`, and back
--     below_at, below_none, below_more      numbers below a bound, place by place
--     below-append, below_both  two lists of them, one behind the other
--     residues-tab, residues-snoc       lists of residues: by place, and with one residue more at the end
--     headroom-fits      where each place has room for a product of two bytes, it has room for its own
--     maxima-none        a row of zeros raises nothing
-- Assumes nothing.
use mathlib.Core.Path.{◌≡◌, refl, sym, ap, ap₂, ◌∙◌}
use mathlib.Core.Bool.{Bool, true, false, ◌&&◌, and-true}
use mathlib.Core.List.{List, [], ◌∷◌, ◌++◌}
use Prim.Native.Nat.{ℕ, zero, suc, max, ◌+◌, ◌*◌, ◌≤◌, ◌<◌}
use native.Mathlib.Nat.{lt_of_lt_of_le, mul-le-mul}
use native.Mathlib.Decide.{dec_lt}
use native.Mathlib.Omega.{arith}
use lib.Dec.{ltb}
use lib.ListN.{length}
use Rattle.std.specs.List.{fold}
use Rattle.lists.specs.Places.{tab, every, at}
use Rattle.lists.proofs.Tests.{refute, and_assoc, both, every-cons, every-at, every_of}
use Rattle.lists.proofs.Tabs.{tab-length, tab-at, is-tab}
use Rattle.lists.proofs.Parts.{at-past}
use Rattle.field.specs.Residues.{Residues}
use Rattle.field.specs.Rows.{Headroom, all_below, maxima}
use borrow.Author.Tests.{lt-ltb, le-ltb, ltb-true}

pub below-joined : (a b r q : ℕ) → r ≡ max a b → ltb r q ≡ (ltb a q && ltb b q)
below-joined a b r q e = elim (dec_lt a q) [
  | yes ha ↦
      elim (dec_lt b q) [
        | yes hb ↦ lt-ltb r q (omega arith) ∙ sym (ap₂ ◌&&◌ (lt-ltb a q ha) (lt-ltb b q hb))
        | no hb ↦ le-ltb r q (omega arith) ∙ sym (ap₂ ◌&&◌ (lt-ltb a q ha) (le-ltb b q (omega arith)))
      ]
  | no ha ↦
      let l : q ≤ a = omega arith in
      le-ltb r q (omega arith) ∙ sym (ap₂ ◌&&◌ (le-ltb a q l) refl)
]

pub residues-of : (p : ℕ) (xs : List ℕ) → 0 < p → all_below p xs ≡ true → Residues p xs
residues-of p xs pos h i = elim (dec_lt i (length xs)) [
  | yes l ↦ ltb-true (at xs i) p (every-at (λ j. ltb (at xs j) p) (length xs) h i l)
  | no l ↦ rw (at-past xs i (omega arith)) pos
]

pub below_of : (p : ℕ) (xs : List ℕ) → Residues p xs → all_below p xs ≡ true
below_of p xs h = every_of (λ j. ltb (at xs j) p) (length xs) (λ i l. lt-ltb (at xs i) p (h i))

module _ (p : ℕ) (xs : List ℕ) where
  pub below_at : all_below p xs ≡ true → (i : ℕ) → i < length xs → at xs i < p
  below_at e i l = ltb-true (at xs i) p (every-at (λ j. ltb (at xs j) p) (length xs) e i l)

  pub below_none : (i : ℕ) → i < length xs → p ≤ at xs i → all_below p xs ≡ false
  below_none i l h = refute (all_below p xs) (λ e. omega (arith, below_at e i l, h))

  pub below_more : (q : ℕ) → p ≤ q → all_below p xs ≡ true → all_below q xs ≡ true
  below_more q h e = every_of (λ j. ltb (at xs j) q) (length xs) (λ j l. lt-ltb (at xs j) q (lt_of_lt_of_le (below_at e j l) h))

pub below-cons : (p x : ℕ) (xs : List ℕ) → all_below p (x ∷ xs) ≡ (ltb x p && all_below p xs)
below-cons p x xs = every-cons (λ j. ltb (at (x ∷ xs) j) p) (length xs)

-- a maximum so far is below p, and so are the numbers behind it
fold-below : (p a : ℕ) (xs : List ℕ) → ltb (fold max a xs) p ≡ (ltb a p && all_below p xs)
unfolding every
fold-below p a [] = sym (and-true (ltb a p))
fold-below p a (x ∷ xs) =
    fold-below p (max a x) xs
    ∙ ap (λ (b : Bool). b && all_below p xs) (below-joined a x (max a x) p refl)
    ∙ and_assoc (ltb a p) (ltb x p) (all_below p xs)
    ∙ ap (λ (b : Bool). ltb a p && b) (sym (below-cons p x xs))

pub largest-below : (p : ℕ) (xs : List ℕ) → 0 < p → ltb (fold max 0 xs) p ≡ all_below p xs
largest-below p xs pos = fold-below p 0 xs ∙ ap (λ (b : Bool). b && all_below p xs) (lt-ltb 0 p pos)

pub below-append : (p : ℕ) (xs ys : List ℕ) → all_below p (xs ++ ys) ≡ (all_below p xs && all_below p ys)
unfolding every
below-append p [] ys = refl
below-append p (x ∷ xs) ys =
    below-cons p x (xs ++ ys)
    ∙ ap (λ (b : Bool). ltb x p && b) (below-append p xs ys)
    ∙ sym (and_assoc (ltb x p) (all_below p xs) (all_below p ys))
    ∙ ap (λ (b : Bool). b && all_below p ys) (sym (below-cons p x xs))

pub below_both : (p : ℕ) (xs ys : List ℕ) → all_below p xs ≡ true → all_below p ys ≡ true → all_below p (xs ++ ys) ≡ true
below_both p xs ys hx hy = below-append p xs ys ∙ both (all_below p xs) (all_below p ys) hx hy

pub residues-tab : (p n : ℕ) (f : ℕ → ℕ) → 0 < p → ((i : ℕ) → i < n → f i < p) → Residues p (tab n f)
residues-tab p n f pos h i = elim (dec_lt i n) [
  | yes l ↦ rw (tab-at n f 0 i l) (h i l)
  | no l ↦ rw (at-past (tab n f) i (rw tab-length (omega arith))) pos
]

pub residues-snoc : (p : ℕ) (xs : List ℕ) (y : ℕ) → 0 < p → y < p → Residues p xs → Residues p (xs ++ (y ∷ []))
residues-snoc p [] y pos hy h zero = hy
residues-snoc p [] y pos hy h (suc i) = pos
residues-snoc p (x ∷ xs) y pos hy h zero = h zero
residues-snoc p (x ∷ xs) y pos hy h (suc i) = residues-snoc p xs y pos hy (λ k. h (suc k)) i

pub headroom-fits : (g : ℕ) (acc ys : List ℕ) → g ≤ 255 → ((j : ℕ) → at ys j ≤ 255) → Headroom 65025 acc → (j : ℕ) → at acc j + g * at ys j < 4294967296
headroom-fits g acc ys hg hy h j = omega (arith, mul-le-mul hg (hy j), h j)

pub maxima-none : (xs ys : List ℕ) → all_below 1 ys ≡ true → xs ≡ maxima xs ys
maxima-none xs ys z =
    is-tab xs (length xs) (λ j. max (at xs j) (at ys j)) 0 refl (λ j l. omega (arith, residues-of 1 ys (omega arith) z j))
