-- Bytes that are 0, told by a number that is 0 when they are.
--     sum-none, or-none   a number that is 0 exactly when two others are: any such, as a + 256 * b; their bits together
--     joined, or-both     a number for the first k places and one for the l behind them: together one for the first k + l
--     ends, or-ends       a number for the first j places and one for the last k, which cover the list: together one for the list
--     single, two         one byte, and two bytes as one number
--     front-none          a list whose front is not all 0
-- Assumes nothing.
use mathlib.Core.Path.{◌≡◌, refl, sym, ap, ap₂, ◌∙◌}
use mathlib.Core.Bool.{Bool, true, false, ◌&&◌}
use mathlib.Core.List.{List, [], ◌∷◌}
use Prim.Native.Nat.{ℕ, ◌+◌, ◌-◌, ◌*◌, ◌≤◌}
use native.Mathlib.Nat.{not-suc-le-zero, le_of_suc-le-suc, le_refl}
use native.Mathlib.Decide.{ℕ_discrete}
use native.Mathlib.Omega.{arith}
use lib.Bits.{bit_or, or_add_and, and_le_l, and_le_r}
use lib.Dec.{eqb, ltb}
use lib.ListN.{length, take, drop, length-drop, take-append-drop}
use lib.Seq.{take_all, take-add}
use borrow.Author.Tests.{eq-eqb, ne_eqb, lt-ltb, le-ltb}
use Rattle.lists.specs.Places.{every, at}
use Rattle.field.specs.Rows.{all_below}
use Rattle.field.proofs.Ranges.{below-append}

pub sum-none : (a b r : ℕ) → (r ≡ 0 → a ≡ 0) → (r ≡ 0 → b ≡ 0) → (a ≡ 0 → b ≡ 0 → r ≡ 0) → eqb r 0 ≡ (eqb a 0 && eqb b 0)
sum-none a b r fa fb of = elim (ℕ_discrete a 0) [
  | yes ha ↦
      elim (ℕ_discrete b 0) [
        | yes hb ↦ eq-eqb r 0 (of ha hb) ∙ sym (ap₂ ◌&&◌ (eq-eqb a 0 ha) (eq-eqb b 0 hb))
        | no hb ↦ ne_eqb r 0 (λ e. hb (fb e)) ∙ sym (ap₂ ◌&&◌ (eq-eqb a 0 ha) (ne_eqb b 0 hb))
      ]
  | no ha ↦ ne_eqb r 0 (λ e. ha (fa e)) ∙ sym (ap (λ (t : Bool). t && eqb b 0) (ne_eqb a 0 ha))
]

or-none : (a b : ℕ) → eqb (bit_or a b) 0 ≡ (eqb a 0 && eqb b 0)
or-none a b =
    sum-none a b (bit_or a b)
    (λ e. omega (arith, or_add_and a b, and_le_r a b, e))
    (λ e. omega (arith, or_add_and a b, and_le_l a b, e))
    (λ x y. omega (arith, or_add_and a b, x, y))

-- the l places from i on, as the code cuts them
abbrev pub cut : ℕ → ℕ → List ℕ → List ℕ
cut i l xs = take l (take (length xs - i) (drop i xs))

split : (n m : ℕ) (xs : List ℕ) → all_below 1 (take (n + m) xs) ≡ (all_below 1 (take n xs) && all_below 1 (take m (drop n xs)))
split n m xs = ap (all_below 1) (take-add n m xs) ∙ below-append 1 (take n xs) (take m (drop n xs))

-- a test made twice
again : (x y z : Bool) → ((x && y) && (y && z)) ≡ (x && (y && z))
again true true z = refl
again true false z = refl
again false y z = refl

overlap : (i d m : ℕ) (xs : List ℕ) → (all_below 1 (take (i + d) xs) && all_below 1 (take (d + m) (drop i xs))) ≡ all_below 1 (take (i + (d + m)) xs)
overlap i d m xs =
    ap₂ ◌&&◌ (split i d xs) (split d m (drop i xs))
    ∙ again (all_below 1 (take i xs)) (all_below 1 (take d (drop i xs))) (all_below 1 (take m (drop d (drop i xs))))
    ∙ sym (split i (d + m) xs ∙ ap (λ (t : Bool). all_below 1 (take i xs) && t) (split d m (drop i xs)))

module _ (a b r : ℕ) (xs : List ℕ) (none : eqb r 0 ≡ (eqb a 0 && eqb b 0)) where
  covered : (k i l : ℕ) → i ≤ k → k ≤ i + l → eqb a 0 ≡ all_below 1 (take k xs) → eqb b 0 ≡ all_below 1 (cut i l xs) → eqb r 0 ≡ all_below 1 (take (i + l) xs)
  covered k i l h h' ha hb =
      let front : k ≡ i + (k - i) = omega arith in
      let behind : l ≡ (k - i) + (l - (k - i)) = omega arith in
      none
      ∙ ap₂ ◌&&◌ (ha ∙ ap (λ (n : ℕ). all_below 1 (take n xs)) front)
      (hb
      ∙ ap (λ (zs : List ℕ). all_below 1 (take l zs)) (take_all (length xs - i) (drop i xs) (omega (arith, length-drop i xs)))
      ∙ ap (λ (n : ℕ). all_below 1 (take n (drop i xs))) behind)
      ∙ overlap i (k - i) (l - (k - i)) xs
      ∙ ap (λ (n : ℕ). all_below 1 (take (i + n) xs)) (sym behind)

  pub joined : (k l : ℕ) → eqb a 0 ≡ all_below 1 (take k xs) → eqb b 0 ≡ all_below 1 (cut k l xs) → eqb r 0 ≡ all_below 1 (take (k + l) xs)
  joined k l = covered k k l (le_refl k) (omega arith)

  pub ends : (j k : ℕ) → j ≤ length xs → k ≤ length xs → length xs ≤ j + k → eqb a 0 ≡ all_below 1 (take j xs) → eqb b 0 ≡ all_below 1 (cut (length xs - k) k xs) → eqb r 0 ≡ all_below 1 xs
  ends j k h h' h'' ha hb =
      covered j (length xs - k) k (omega arith) (omega arith) ha hb ∙ ap (all_below 1) (take_all (length xs - k + k) xs (omega arith))

pub or-both : (k l a b : ℕ) (xs : List ℕ) → eqb a 0 ≡ all_below 1 (take k xs) → eqb b 0 ≡ all_below 1 (cut k l xs) → eqb (bit_or a b) 0 ≡ all_below 1 (take (k + l) xs)
or-both k l a b xs = joined a b (bit_or a b) xs (or-none a b) k l

pub or-ends : (k a b : ℕ) (xs : List ℕ) → k ≤ length xs → length xs ≤ k + k → eqb a 0 ≡ all_below 1 (take k xs) → eqb b 0 ≡ all_below 1 (cut (length xs - k) k xs) → eqb (bit_or a b) 0 ≡ all_below 1 xs
or-ends k a b xs h = ends a b (bit_or a b) xs (or-none a b) k k h h

pub front-none : (n : ℕ) (xs : List ℕ) → all_below 1 (take n xs) ≡ false → all_below 1 xs ≡ false
front-none n xs h =
    ap (all_below 1) (sym (take-append-drop n xs)) ∙ below-append 1 (take n xs) (drop n xs) ∙ ap (λ (t : Bool). t && all_below 1 (drop n xs)) h

one : (x : ℕ) → eqb x 0 ≡ ltb x 1
one x = elim (ℕ_discrete x 0) [
  | yes h ↦ eq-eqb x 0 h ∙ sym (lt-ltb x 1 (omega (arith, h)))
  | no h ↦ ne_eqb x 0 h ∙ sym (le-ltb x 1 (omega (arith, h)))
]

pub single : (xs : List ℕ) → length xs ≡ 1 → eqb (at xs 0) 0 ≡ all_below 1 xs
unfolding every
single xs h = one (at xs 0) ∙ ap (every (λ j. ltb (at xs j) 1)) (sym h)

pub two : (xs : List ℕ) → 2 ≤ length xs → eqb (at xs 0 + 256 * at xs 1) 0 ≡ all_below 1 (take 2 xs)
unfolding every
two [] h = absurd (not-suc-le-zero h)
two (x ∷ []) h = absurd (not-suc-le-zero (le_of_suc-le-suc h))
two (x ∷ y ∷ zs) h = sum-none x y (x + 256 * y) (λ e. omega (arith, e)) (λ e. omega (arith, e)) (λ a b. omega (arith, a, b)) ∙ ap₂ ◌&&◌ (one x) (one y)
