-- The pieces of a byte string that is cut at every c, from a place on.
--     piece-past            the piece at the string's end
--     piece-fits, piece-part      a piece ends within the string, and is the part from its start to its end
--     pieces_step, pieces-past, pieces-all  the pieces from a place on: the piece there and those behind it; none past the end; all from 0
--     front-size, front-found, piece-rest, piece-none      how long the first piece is, as a search for a c finds it
-- Assumes nothing.
use mathlib.Core.Path.{◌≡◌, refl, sym, ap, ◌∙◌}
use mathlib.Core.Bool.{Bool, true, false, cond}
use mathlib.Core.List.{List, [], ◌∷◌}
use mathlib.Core.Logic.{◌⊎◌, inl, inr}
use Prim.Native.Nat.{ℕ, suc, ◌+◌, ◌-◌, ◌≤◌, ◌<◌}
use native.Mathlib.Nat.{add-sub_cancel_left}
use native.Mathlib.Omega.{arith}
use lib.Dec.{eqb, leb, ltb, leb-suc-suc}
use lib.ListN.{length, take, drop, length-drop, drop_of_length-le}
use lib.Seq.{drop-drop, take_all}
use borrow.Author.Tests.{le-leb, lt-leb, leb-true, leb-false, ltb-false}
use Rattle.std.specs.Prelude.{Some, None}
use Rattle.std.specs.Option.{unwrap_or}
use Rattle.std.specs.List.{position_or_len}
use Rattle.std.proofs.lemmas.List.Recursion.{is_position_or_len}
use Rattle.lines.specs.Lines.{onto, cut_at}
use Rattle.lines.specs.Words.{front, piece, pieces_from}

module _ (c : ℕ) where
  pub piece-past : (bytes : List ℕ) (i : ℕ) → length bytes ≤ i → piece c bytes i ≡ []
  unfolding piece cut_at
  piece-past bytes i h = rw (drop_of_length-le bytes h)

  -- a list that is cut: its first piece is within it, is its beginning, and the other pieces are those behind it
  pub cut_fits : (xs : List ℕ) → length (front (cut_at c xs)) ≤ length xs
  unfolding cut_at
  cut_fits [] = omega arith
  cut_fits (x ∷ xs) = by (eqb x c) (cut_at c xs) (cut_fits xs)
    where
      by : (b : Bool) (pieces : List (List ℕ)) → length (front pieces) ≤ length xs → length (front (cond b ([] ∷ pieces) (onto x pieces))) ≤ suc (length xs)
      by true pieces h = omega arith
      by false [] h = omega arith
      by false (one ∷ pieces) h = omega arith

  cut-front : (xs : List ℕ) → front (cut_at c xs) ≡ take (length (front (cut_at c xs))) xs
  unfolding cut_at
  cut-front [] = refl
  cut-front (x ∷ xs) = by (eqb x c) (cut_at c xs) (cut-front xs)
    where
      by : (b : Bool) (pieces : List (List ℕ)) → front pieces ≡ take (length (front pieces)) xs → front (cond b ([] ∷ pieces) (onto x pieces)) ≡ take (length (front (cond b ([] ∷ pieces) (onto x pieces)))) (x ∷ xs)
      by true pieces h = refl
      by false [] h = refl
      by false (one ∷ pieces) h = ap (λ (l : List ℕ). x ∷ l) h

  -- the pieces behind the first, where it ends at a c or at the end
  behind : List ℕ → ℕ → List (List ℕ)
  behind xs k = cond (leb (suc k) (length xs)) (cut_at c (drop (suc k) xs)) []

  cut_step : (xs : List ℕ) → cut_at c xs ≡ front (cut_at c xs) ∷ behind xs (length (front (cut_at c xs)))
  unfolding cut_at behind
  cut_step [] = refl
  cut_step (x ∷ xs) = by (eqb x c) (cut_at c xs) refl (cut_step xs)
    where
      by : (b : Bool) (pieces : List (List ℕ)) → cut_at c xs ≡ pieces → pieces ≡ front pieces ∷ behind xs (length (front pieces))
          → cond b ([] ∷ pieces) (onto x pieces) ≡ front (cond b ([] ∷ pieces) (onto x pieces)) ∷ behind (x ∷ xs) (length (front (cond b ([] ∷ pieces) (onto x pieces))))
      by true pieces e h = rw (le-leb 1 (suc (length xs)) (omega arith)) (ap (λ (l : List (List ℕ)). [] ∷ l) (sym e))
      by false [] e h = let z : ◌≡◌ {A = ℕ} 0 1 = cc in absurd (omega arith)
      by false (one ∷ pieces) e h =
          let rest : pieces ≡ behind xs (length one) = cc in
          rw (leb-suc-suc (suc (length one)) (length xs)) (ap (λ (l : List (List ℕ)). (x ∷ one) ∷ l) rest)

  pub piece-fits : (bytes : List ℕ) (i : ℕ) → i ≤ length bytes → i + length (piece c bytes i) ≤ length bytes
  unfolding piece
  piece-fits bytes i h = omega (arith, cut_fits (drop i bytes), length-drop i bytes)

  -- as the code cuts it, from i to the piece's end
  pub piece-part : (bytes : List ℕ) (i e : ℕ) → e ≡ i + length (piece c bytes i) → take (e - i) (drop i bytes) ≡ piece c bytes i
  unfolding piece
  piece-part bytes i e h = rw (h, add-sub_cancel_left) (sym (cut-front (drop i bytes)))

  pub pieces-past : (bytes : List ℕ) (i : ℕ) → length bytes < i → pieces_from c bytes i ≡ []
  unfolding pieces_from
  pieces-past bytes i h = rw (lt-leb i (length bytes) h)

  pub pieces-all : (bytes : List ℕ) → pieces_from c bytes 0 ≡ cut_at c bytes
  unfolding pieces_from
  pieces-all bytes = rw (le-leb 0 (length bytes) (omega arith))

  pub pieces_step : (bytes : List ℕ) (i : ℕ) → i ≤ length bytes → pieces_from c bytes i ≡ piece c bytes i ∷ pieces_from c bytes (i + length (piece c bytes i) + 1)
  unfolding piece pieces_from behind
  pieces_step bytes i h =
      rw (le-leb i (length bytes) h)
      (cut_step (drop i bytes) ∙ ap (λ (l : List (List ℕ)). front (cut_at c (drop i bytes)) ∷ l) (by (length (front (cut_at c (drop i bytes))))))
    where
      by : (k : ℕ) → behind (drop i bytes) k ≡ cond (leb (i + k + 1) (length bytes)) (cut_at c (drop (i + k + 1) bytes)) []
      by k = rw (drop-drop (suc k) i bytes, length-drop i bytes) (both' (leb (suc k) (length bytes - i)) refl)
        where
          same : i + suc k ≡ i + k + 1
          same = omega arith

          both' : (b : Bool) → leb (suc k) (length bytes - i) ≡ b → cond (leb (suc k) (length bytes - i)) (cut_at c (drop (i + suc k) bytes)) [] ≡ cond (leb (i + k + 1) (length bytes)) (cut_at c (drop (i + k + 1) bytes)) []
          both' true e = rw (e, le-leb (i + k + 1) (length bytes) (omega (arith, leb-true (suc k) (length bytes - i) e))) (ap (λ (n : ℕ). cut_at c (drop n bytes)) same)
          both' false e = rw (e, lt-leb (i + k + 1) (length bytes) (omega (arith, leb-false (suc k) (length bytes - i) e)))

  -- the size of the first piece is the place of the first c
  pub front-size : (xs : List ℕ) → length (front (cut_at c xs)) ≡ position_or_len (λ (x : ℕ). eqb x c) xs
  unfolding cut_at
  front-size = is_position_or_len (λ (xs : List ℕ). length (front (cut_at c xs))) (λ (x : ℕ). eqb x c) empty step
    where
      empty : length (front (cut_at c [])) ≡ 0
      empty = refl

      step : (x : ℕ) (xs : List ℕ) → length (front (cut_at c (x ∷ xs))) ≡ cond (eqb x c) 0 (1 + length (front (cut_at c xs)))
      step x xs = by (eqb x c) (cut_at c xs)
        where
          by : (b : Bool) (pieces : List (List ℕ)) → length (front (cond b ([] ∷ pieces) (onto x pieces))) ≡ cond b 0 (1 + length (front pieces))
          by true pieces = refl
          by false [] = refl
          by false (one ∷ pieces) = omega arith

  -- as a search for the first c answers it
  pub front-found : (xs : List ℕ) → unwrap_or (cond (ltb (position_or_len (λ (x : ℕ). eqb x c) xs) (length xs)) (Some (position_or_len (λ (x : ℕ). eqb x c) xs)) None) (length xs) ≡ length (front (cut_at c xs))
  front-found xs = rw (sym (front-size xs)) (by (ltb size (length xs)) refl)
    where
      size : ℕ
      size = length (front (cut_at c xs))

      by : (b : Bool) → ltb size (length xs) ≡ b → unwrap_or (cond b (Some size) None) (length xs) ≡ size
      by true e = refl
      by false e = omega (arith, ltb-false size (length xs) e, cut_fits xs)

  -- the bytes from place i on hold the piece there
  pub piece-rest : (bytes rest : List ℕ) (i : ℕ) → rest ≡ take (length bytes - i) (drop i bytes) → length (front (cut_at c rest)) ≡ length (piece c bytes i)
  unfolding piece
  piece-rest bytes rest i e = rw (e, take_all (length bytes - i) (drop i bytes) (omega (arith, length-drop i bytes)))

  -- there are none
  pub piece-none : (bytes : List ℕ) (i : ℕ) → (length bytes < i ⊎ length bytes < length bytes) → i ≡ i + length (piece c bytes i)
  piece-none bytes i (inl l) = rw (piece-past bytes i (omega arith)) (omega arith)
  piece-none bytes i (inr l) = absurd (omega arith)
