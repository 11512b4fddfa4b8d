-- A line that is read number by number into a list.
--     Filling most line n out i k     the first k of n numbers stand in out, and place i of the line is where the next word begins
--     filling-start, filling-next     before the first number, and after one more
--     filling-refused                 where no number stands, the line is not one of n numbers
--     filling-complete                when the list is full: whether the line is one of n numbers, and which
-- Assumes nothing.
use mathlib.Core.Path.{◌≡◌, refl, sym, ap, ◌∙◌}
use mathlib.Core.Bool.{Bool, true, false, ◌&&◌, false≢true}
use mathlib.Core.List.{List, ◌∷◌, ◌++◌, map, append-nil}
use Prim.Native.Nat.{ℕ, ◌+◌, ◌≤◌, ◌<◌}
use native.Mathlib.Numerals.{add-one}
use native.Mathlib.Omega.{arith}
use lib.Dec.{eqb, leb, ltb}
use lib.ListN.{length, take, set, length-set}
use lib.Seq.{take_all, take-suc-set, append_snoc}
use borrow.Author.Tests.{lt-ltb, le-ltb, ltb-true, leb-true, leb-false, ne_eqb, eq-eqb}
use Rattle.std.specs.Prelude.{Some, None}
use Rattle.lists.proofs.Tests.{and-false}
use Rattle.lines.specs.Lines.{cut_at, number, all_numerals, asks, numbers}
use Rattle.lines.specs.Words.{word, words_from, numeral_at}
use Rattle.lines.specs.declared.numerals.Numeral.{Numeral}
use Rattle.lines.proofs.WordLaws.{piece-past, pieces-past, pieces-all}
use Rattle.lines.proofs.DigitLaws.{empty-word}
use Rattle.lines.proofs.NumeralLaws.{found}
use Rattle.lines.proofs.LineLaws.{next_place-turn, words-found, counted, counted_start, counted_none, counted-full, counted_next, counted-end}

-- what `asks` says of the words of a line, beside its size
asked : ℕ → List ℕ → ℕ → Bool
asked most line n = all_numerals most (cut_at 32 line) && eqb (length (cut_at 32 line)) n

pub record Filling (most : ℕ) (line : List ℕ) (n : ℕ) (out : List ℕ) (i k : ℕ) : Type 0 where
  pub places : length out ≡ n
  within : i ≤ length line + 1
  few : k ≤ n
  decides : asked most line n ≡ counted most line i k n
  done : numbers line ≡ take k out ++ map number (words_from line i)

-- past the end of a line no number stands
number-within : (most : ℕ) (line : List ℕ) (i : ℕ) (r : Numeral) → numeral_at most line i ≡ Some r → i ≤ length line
number-within most line i r e = by (leb i (length line)) refl
  where
    by : (b : Bool) → leb i (length line) ≡ b → i ≤ length line
    by true l = leb-true i (length line) l
    by false l =
        let past = piece-past 32 line i (omega (arith, leb-false i (length line) l)) in
        absurd (false≢true (sym (empty-word most (word line i) (omega (arith, ap length past))) ∙ (found most line i r e).0))

module _ (most : ℕ) (line : List ℕ) (n : ℕ) where
  pub filling-start : (out : List ℕ) → length out ≡ n → Filling most line n out 0 0
  unfolding asked numbers
  filling-start out e = record {
    places = e;
    within = omega arith;
    few = omega arith;
    decides = counted_start most line n;
    done = rw (pieces-all 32 line);
  }

  module _ {out : List ℕ} {i k : ℕ} (f : Filling most line n out i k) where
    module _ (room : k < n) where
      pub filling-next : (r : Numeral) → numeral_at most line i ≡ Some r → Filling most line n (set out k r.value) r.next (k + 1)
      filling-next r e =
          let l = number-within most line i r e in
          record {
            places = length-set out k r.value ∙ f.places;
            within = (next_place-turn most line i l r e).1;
            few = omega arith;
            decides = f.decides ∙ counted_next most line i l r e k n;
            done =
                f.done
                ∙ ap (λ (l : List (List ℕ)). take k out ++ map number l) (words-found most line i l r e)
                ∙ ap (λ (x : ℕ). take k out ++ (x ∷ map number (words_from line r.next))) (found most line i r e).1
                ∙ rw (add-one, take-suc-set out k r.value (omega (arith, f.places, room))) (sym (append_snoc (take k out) r.value (map number (words_from line r.next))));
          }

      pub filling-refused : numeral_at most line i ≡ None → asks most n line ≡ false
      unfolding asks asked
      filling-refused e = rw (f.decides ∙ by (leb i (length line)) refl) (and-false (ltb (length line) 1024))
        where
          by : (b : Bool) → leb i (length line) ≡ b → counted most line i k n ≡ false
          by true l = counted_none most line i (leb-true i (length line) l) k n e
          by false l = counted-end most line i k n (omega (arith, leb-false i (length line) l)) ∙ ne_eqb k n (λ z. omega (arith, z, room))

    module _ (full : n ≤ k) where
      decided : ltb (length line) i ≡ asked most line n
      decided = by (leb i (length line)) refl
        where
          by : (b : Bool) → leb i (length line) ≡ b → ltb (length line) i ≡ asked most line n
          by true l =
              let before = leb-true i (length line) l in
              le-ltb (length line) i before ∙ sym (f.decides ∙ counted-full most line i before k n full)
          by false l =
              let past : length line < i = omega (arith, leb-false i (length line) l) in
              lt-ltb (length line) i past ∙ sym (f.decides ∙ counted-end most line i k n past ∙ eq-eqb k n (omega (arith, f.few, full)))

      pub filling-complete : length line < 1024 → (ltb (length line) i ≡ asks most n line) × (ltb (length line) i ≡ true → out ≡ numbers line)
      unfolding asks asked
      filling-complete h = (rw (lt-ltb (length line) 1024 h) decided, λ (e : ltb (length line) i ≡ true). done-at (ltb-true (length line) i e))
        where
          done-at : length line < i → out ≡ numbers line
          done-at l = sym (f.done ∙ rw (pieces-past 32 line i l) (append-nil (take k out) ∙ take_all k out (omega (arith, f.places, full))))
