-- Passes over the words of a line, by the place that they have reached.
--     words-found, next_place-turn               the words from a place on, where a number stands there; the next word is at most one past the end
--     counted, counted_start, counted_none, counted-full, counted_next, counted-end
--                                           whether the words from a place on are numerals and, with k before them, n in number
--     asks-long, too_long, asks-count       what a test of a line says of it
-- Assumes nothing.
use mathlib.Core.Path.{◌≡◌, sym, ap, ◌∙◌}
use mathlib.Core.Bool.{Bool, true, false, ◌&&◌, false≢true}
use mathlib.Core.List.{List, ◌∷◌}
use Prim.Native.Nat.{ℕ, suc, ◌+◌, ◌≤◌, ◌<◌}
use native.Mathlib.Nat.{add-zero, zero-add}
use native.Mathlib.Omega.{arith}
use Rattle.std.specs.Prelude.{Some, None}
use lib.Dec.{eqb, ltb}
use lib.ListN.{length, length-map}
use borrow.Author.Tests.{le-ltb, ne_eqb, eqb-true}
use Rattle.lists.proofs.Tests.{both_true, and-false}
use Rattle.lines.specs.Lines.{cut_at, number, all_numerals, asks, numbers}
use Rattle.lines.specs.Words.{word, words_from, numeral_at}
use Rattle.lines.specs.declared.numerals.Numeral.{Numeral}
use Rattle.lines.proofs.WordLaws.{piece-fits, pieces-past, pieces-all, pieces_step}
use Rattle.lines.proofs.NumeralLaws.{none, found}

pub counted : ℕ → List ℕ → ℕ → ℕ → ℕ → Bool
counted most line i k n = all_numerals most (words_from line i) && eqb (k + length (words_from line i)) n

pub counted_start : (most : ℕ) (line : List ℕ) (n : ℕ) → (all_numerals most (cut_at 32 line) && eqb (length (cut_at 32 line)) n) ≡ counted most line 0 0 n
unfolding counted
counted_start most line n = rw (pieces-all 32 line, zero-add)

pub counted-end : (most : ℕ) (line : List ℕ) (i k n : ℕ) → length line < i → counted most line i k n ≡ eqb k n
unfolding counted all_numerals
counted-end most line i k n h = rw (pieces-past 32 line i h, add-zero)

module _ (most : ℕ) (line : List ℕ) (i : ℕ) (within : i ≤ length line) where
  pub counted_none : (k n : ℕ) → numeral_at most line i ≡ None → counted most line i k n ≡ false
  unfolding counted all_numerals
  counted_none k n e = rw (pieces_step 32 line i within, none most line i e)

  pub counted-full : (k n : ℕ) → n ≤ k → counted most line i k n ≡ false
  unfolding counted
  counted-full k n h =
      rw (ne_eqb (k + length (words_from line i)) n (λ e. omega (arith, h, e, ap length (pieces_step 32 line i within)))) (and-false (all_numerals most (words_from line i)))

  module _ (r : Numeral) (read : numeral_at most line i ≡ Some r) where
    pub next_place-turn : (i < r.next) × (r.next ≤ length line + 1)
    next_place-turn =
        let f = found most line i r read in
        (omega (arith, f.2), omega (arith, f.2, piece-fits 32 line i within))

    pub words-found : words_from line i ≡ word line i ∷ words_from line r.next
    words-found = pieces_step 32 line i within ∙ ap (λ (k : ℕ). word line i ∷ words_from line k) (sym (found most line i r read).2)

    pub counted_next : (k m : ℕ) → counted most line i k m ≡ counted most line r.next (k + 1) m
    unfolding counted all_numerals
    counted_next k m =
        let same : k + suc (length (words_from line r.next)) ≡ k + 1 + length (words_from line r.next) = omega arith in
        rw (words-found, (found most line i r read).0) (ap (λ (j : ℕ). all_numerals most (words_from line r.next) && eqb j m) same)

-- what a test of a line says of it
module _ (most n : ℕ) (line : List ℕ) where
  pub asks-long : 1024 ≤ length line → asks most n line ≡ false
  unfolding asks
  asks-long h = rw (le-ltb (length line) 1024 h)

  pub asks-count : asks most n line ≡ true → length (numbers line) ≡ n
  unfolding asks numbers
  asks-count h =
      let a = both_true (ltb (length line) 1024) (all_numerals most (cut_at 32 line) && eqb (length (cut_at 32 line)) n) h in
      let b = both_true (all_numerals most (cut_at 32 line)) (eqb (length (cut_at 32 line)) n) a.1 in
      length-map (cut_at 32 line) number ∙ eqb-true (length (cut_at 32 line)) n b.1

  -- what the code answers of a line that is too long
  pub too_long : (out : List ℕ) (size : ℕ) → 1024 ≤ size → size ≤ length line → (ltb (length line) size ≡ asks most n line) × (ltb (length line) size ≡ true → out ≡ numbers line)
  too_long out size l h = rw (le-ltb (length line) size h) (sym (asks-long (omega arith)), λ yes. absurd (false≢true yes))
