-- Two lists of numbers from a place on: the laws of a comparison that goes place by place.
--     same_step, same-refuted, same_end      where they agree at the place, where they differ there, and past the end
-- Assumes nothing.
use mathlib.Core.Path.{◌≡◌, ◌∙◌}
use mathlib.Core.Bool.{true, false, ◌&&◌}
use mathlib.Core.List.{List}
use Prim.Native.Nat.{ℕ, ◌+◌, ◌≤◌, ◌<◌}
use native.Mathlib.Numerals.{add-one}
use native.Mathlib.Omega.{arith}
use lib.Dec.{eqb}
use lib.ListN.{length, drop, drop_of_length-le}
use lib.Seq.{drop-cons}
use borrow.Author.Tests.{eq-eqb, ne_eqb}
use Rattle.lists.specs.Places.{at, same}

module _ (xs ys : List ℕ) (i : ℕ) (hx : i < length xs) (hy : i < length ys) where
  same-cons : same (drop i xs) (drop i ys) ≡ (eqb (at xs i) (at ys i) && same (drop (i + 1) xs) (drop (i + 1) ys))
  unfolding same
  same-cons = rw (add-one, drop-cons xs i 0 hx, drop-cons ys i 0 hy)

  pub same_step : at xs i ≡ at ys i → same (drop i xs) (drop i ys) ≡ same (drop (i + 1) xs) (drop (i + 1) ys)
  same_step e = same-cons ∙ rw (eq-eqb (at xs i) (at ys i) e)

  pub same-refuted : (at xs i ≡ at ys i → ⊥) → same (drop i xs) (drop i ys) ≡ false
  same-refuted e = same-cons ∙ rw (ne_eqb (at xs i) (at ys i) e)

pub same_end : (xs ys : List ℕ) (i : ℕ) → length xs ≡ length ys → length xs ≤ i → same (drop i xs) (drop i ys) ≡ true
unfolding same
same_end xs ys i e h =
    let h' : length ys ≤ i = omega arith in
    rw (drop_of_length-le xs h, drop_of_length-le ys h')
