-- What reading a number at a place answers, from what the code tests of the word there.
--     none-there, one-there      what is answered where the word is no numeral, and where it is one
--     outside                    what is answered past the end
--     inside, none-empty         where the piece ends that has a byte, and what is answered where it has none
--     none, found                what an answer says of the word
-- Assumes nothing.
use mathlib.Core.Path.{◌≡◌, refl, ap, ◌∙◌}
use mathlib.Core.Bool.{Bool, true, false, cond}
use mathlib.Core.List.{List}
use mathlib.Core.Logic.{◌⊎◌, inl, inr}
use Prim.Native.Nat.{ℕ, ◌+◌, ◌≤◌, ◌<◌}
use native.Mathlib.Nat.{add-zero}
use native.Mathlib.Omega.{arith}
use lib.Dec.{leb}
use lib.ListN.{length}
use borrow.Author.Tests.{leb-true, leb-false}
use Rattle.std.specs.Prelude.{Some, None}
use Rattle.lines.specs.Lines.{is_numeral, number}
use Rattle.lines.specs.Words.{word, numeral_at}
use Rattle.lines.specs.declared.numerals.Numeral.{Numeral}
use Rattle.lines.proofs.WordLaws.{piece-fits, piece-past}
use Rattle.lines.proofs.DigitLaws.{empty-word}

module _ (most : ℕ) (bytes : List ℕ) (i : ℕ) where
  abbrev there : Numeral
  there = record { value = number (word bytes i); next = i + length (word bytes i) + 1 }

  pub none-there : is_numeral most (word bytes i) ≡ false → None ≡ numeral_at most bytes i
  unfolding numeral_at
  none-there h = rw h

  -- the piece at i ends at e, which is no place of the bytes
  pub outside : (e : ℕ) → e ≡ i + length (word bytes i) → (e < i ⊎ length bytes < e) → None ≡ numeral_at most bytes i
  outside e ends out = none-there (empty-word most (word bytes i) (by out (leb i (length bytes)) refl))
    where
      by : e < i ⊎ length bytes < e → (b : Bool) → leb i (length bytes) ≡ b → length (word bytes i) < 1
      by (inl l) b h = absurd (omega (arith, ends, l))
      by (inr l) true h = absurd (omega (arith, ends, l, piece-fits 32 bytes i (leb-true i (length bytes) h)))
      by (inr l) false h = rw (piece-past 32 bytes i (omega (arith, leb-false i (length bytes) h))) (omega arith)

  -- the piece at i ends at e, and has a byte
  pub inside : (e : ℕ) → e ≡ i + length (word bytes i) → (e ≡ i → ⊥) → e ≤ length bytes
  inside e ends some = by (leb i (length bytes)) refl
    where
      by : (b : Bool) → leb i (length bytes) ≡ b → e ≤ length bytes
      by true h = omega (arith, ends, piece-fits 32 bytes i (leb-true i (length bytes) h))
      by false h = absurd (some (ends ∙ ap (λ (w : List ℕ). i + length w) (piece-past 32 bytes i (omega (arith, leb-false i (length bytes) h))) ∙ add-zero i))

  pub none-empty : (e : ℕ) → e ≡ i + length (word bytes i) → e ≡ i → None ≡ numeral_at most bytes i
  none-empty e ends at-once = none-there (empty-word most (word bytes i) (omega (arith, ends, at-once)))

  pub one-there : is_numeral most (word bytes i) ≡ true → Some there ≡ numeral_at most bytes i
  unfolding numeral_at
  one-there h = rw h

  pub none : numeral_at most bytes i ≡ None → is_numeral most (word bytes i) ≡ false
  unfolding numeral_at
  none h = by (is_numeral most (word bytes i)) h
    where
      by : (b : Bool) → cond b (Some there) None ≡ None → b ≡ false
      by true e = let z : ◌≡◌ {A = ℕ} 0 1 = cc in absurd (omega arith)
      by false e = refl

  pub found : (r : Numeral) → numeral_at most bytes i ≡ Some r → (is_numeral most (word bytes i) ≡ true) × (number (word bytes i) ≡ r.value) × (r.next ≡ i + length (word bytes i) + 1)
  unfolding numeral_at
  found r h = by (is_numeral most (word bytes i)) there h
    where
      by : (b : Bool) (n : Numeral) → cond b (Some n) None ≡ Some r → (b ≡ true) × (n.value ≡ r.value) × (r.next ≡ n.next)
      by true n e = (refl, (cc), (cc))
      by false n e = let z : ◌≡◌ {A = ℕ} 0 1 = cc in absurd (omega arith)
