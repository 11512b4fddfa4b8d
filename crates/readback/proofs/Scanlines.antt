-- The lines of a text from a place on, as the code reads them: each is missing, malformed, or as its place asks and followed by the others.
--     refused                               the error that a `?` hands on
--     line-missing, line-bad, line-good     the line at a place, and the first bad line from there on
--     line-numbers                          the numbers of a line of steps, and those behind it
--     Reached text i k at j                 the lines from line k on, at place i, have been read up to line j, at place at
--     reached-start, reached-missing, reached-bad, reached-next      before the first, and what the next line says
--     Scanning text from steps at j count   the same of the lines of steps, with their numbers kept; `scanning-next`, `scanning-end`
--     head-start, head-good                 the first three lines, and all lines where they are as their places ask
-- Assumes nothing.
use mathlib.Core.Path.{◌≡◌, refl, sym, ap, ap₂, ◌∙◌}
use mathlib.Core.Bool.{true, false, false≢true}
use mathlib.Core.List.{List, [], ◌∷◌, ◌++◌, append_assoc, append-nil}
use Prim.Native.Nat.{ℕ, ◌+◌, ◌≤◌, ◌<◌}
use native.Mathlib.Numerals.{add-one}
use native.Mathlib.Decide.{dec_lt}
use native.Mathlib.Omega.{arith}
use lib.ListN.{length, drop}
use borrow.Author.Tests.{lt-ltb, le-ltb, le-leb, ne_eqb}
use Rattle.std.specs.Prelude.{Option, Some, Result, Ok, Err, IsErr, IsErrAnd}
use Rattle.lines.specs.Lines.{cut_at, asks, numbers}
use Rattle.lines.specs.Words.{front, piece, pieces_from}
use Rattle.lines.proofs.WordLaws.{piece-past, pieces-past, pieces-all, pieces_step}
use Rattle.readback.specs.Listings.{line_fits, bad_line, step_numbers, malformed, steps_in}
use Rattle.readback.specs.Scanned.{Kept, StepsScanned, Scanned}
use Rattle.readback.specs.declared.scanning.Malformed.{Malformed}
use Rattle.readback.proofs.StepLines.{bad_more, bad-here, numbers_more, step_fits}

-- what a `?` hands on
pub refused : (r : Result (Option ℕ) Malformed) (bad : Malformed) → IsErr r × IsErrAnd r (λ e. e ≡ bad) → r ≡ Err bad
refused (Ok x) bad h = absurd (false≢true h.0)
refused (Err e) bad h = ap Err h.1

module _ (text : List ℕ) (i end : ℕ) (e : end ≡ i + length (piece 10 text i)) where
  -- the line is the last piece
  only : i ≤ length text → length text ≤ end → pieces_from 10 text i ≡ piece 10 text i ∷ []
  only h l =
      pieces_step 10 text i h ∙ ap (λ (ps : List (List ℕ)). piece 10 text i ∷ ps) (pieces-past 10 text (i + length (piece 10 text i) + 1) (omega (arith, e, l)))

  -- the line is whole, and the others are pieces of what follows
  behind : i ≤ length text → end < length text → pieces_from 10 text i ≡ piece 10 text i ∷ cut_at 10 (drop (end + 1) text)
  unfolding pieces_from
  behind h l =
      let place : i + length (piece 10 text i) + 1 ≡ end + 1 = omega (arith, e) in
      pieces_step 10 text i h
      ∙ ap (λ (k : ℕ). piece 10 text i ∷ pieces_from 10 text k) place
      ∙ ap (λ (ps : List (List ℕ)). piece 10 text i ∷ ps) (rw (le-leb (end + 1) (length text) (omega (arith, l))))

  rest : end < length text → cut_at 10 (drop (end + 1) text) ≡ pieces_from 10 text (end + 1)
  unfolding pieces_from
  rest l = rw (le-leb (end + 1) (length text) (omega (arith, l)))

  line-missing : (j : ℕ) → i ≤ length text → length text ≤ end → (3 < j → i < length text) → bad_line j (pieces_from 10 text i) ≡ j
  unfolding bad_line
  line-missing j h l some = rw (only h l) (elim (dec_lt 3 j) [
    | yes late ↦ rw (lt-ltb 3 j late, ne_eqb (length (piece 10 text i)) 0 (λ z. omega (arith, z, e, l, some late)))
    | no early ↦ rw (le-ltb 3 j (omega arith))
  ])

  module _ (inside : i ≤ length text) (l : end < length text) where
    line-bad : (j : ℕ) → line_fits j (piece 10 text i) ≡ false → bad_line j (pieces_from 10 text i) ≡ j
    line-bad j f = ap (bad_line j) (behind inside l) ∙ bad-here (piece 10 text i) (drop (end + 1) text) j f

    line-good : (j : ℕ) → line_fits j (piece 10 text i) ≡ true → bad_line j (pieces_from 10 text i) ≡ bad_line (j + 1) (pieces_from 10 text (end + 1))
    line-good j f =
        ap (bad_line j) (behind inside l)
        ∙ bad_more (piece 10 text i) (drop (end + 1) text) j f
        ∙ ap₂ bad_line (sym (add-one j)) (rest l)

    line-numbers : step_numbers (pieces_from 10 text i) ≡ numbers (piece 10 text i) ++ step_numbers (pieces_from 10 text (end + 1))
    line-numbers =
        ap step_numbers (behind inside l)
        ∙ numbers_more (piece 10 text i) (drop (end + 1) text)
        ∙ ap (λ (ps : List (List ℕ)). numbers (piece 10 text i) ++ step_numbers ps) (rest l)

    line_first : pieces_from 10 text i ≡ piece 10 text i ∷ pieces_from 10 text (end + 1)
    line_first = behind inside l ∙ ap (λ (ps : List (List ℕ)). piece 10 text i ∷ ps) (rest l)

-- the lines from line k, at place i, on have been read up to line j, at place at, and each was as its place asks
pub record Reached (text : List ℕ) (i k at j : ℕ) : Type 0 where
  pub inside : at ≤ length text
  pub decides : bad_line k (pieces_from 10 text i) ≡ bad_line j (pieces_from 10 text at)

pub reached-start : (text : List ℕ) (i k : ℕ) → i ≤ length text → Reached text i k i k
reached-start text i k h = record { inside = h; decides = refl }

module _ {text : List ℕ} {i k at j : ℕ} (r : Reached text i k at j) (end : ℕ) (e : end ≡ at + length (piece 10 text at)) where
  pub reached-missing : end ≡ length text → (3 < j → at < length text) → bad_line k (pieces_from 10 text i) ≡ j
  reached-missing l some = r.decides ∙ line-missing text at end e j r.inside (omega (arith, l)) some

  module _ (l : end < length text) where
    pub reached-bad : line_fits j (piece 10 text at) ≡ false → bad_line k (pieces_from 10 text i) ≡ j
    reached-bad f = r.decides ∙ line-bad text at end e r.inside l j f

    pub reached-next : line_fits j (piece 10 text at) ≡ true → Reached text i k (end + 1) (j + 1)
    reached-next f = record { inside = omega (arith, l); decides = r.decides ∙ line-good text at end e r.inside l j f }

pub record Scanning (text : List ℕ) (from : ℕ) (steps : List ℕ) (at j : ℕ) (count : Option ℕ) : Type 0 where
  pub reached : Reached text from 4 at j
  pub late : 3 < j
  pub small : j ≤ at + 4
  pub read : List ℕ
  pub done : step_numbers (pieces_from 10 text from) ≡ read ++ step_numbers (pieces_from 10 text at)
  pub kept : Kept read steps count

module _ {text : List ℕ} {from : ℕ} {steps : List ℕ} {at j : ℕ} {count : Option ℕ} (s : Scanning text from steps at j count) where
  pub scanning-next : (end : ℕ) → end ≡ at + length (piece 10 text at) → end < length text → asks 5 4 (piece 10 text at) ≡ true → (left : List ℕ) (r : Option ℕ)
      → Kept (s.read ++ numbers (piece 10 text at)) left r → Scanning text from left (end + 1) (j + 1) r
  scanning-next end e l f left r k = record {
    reached = reached-next s.reached end e l (step_fits j (piece 10 text at) s.late ∙ f);
    late = omega (arith, s.late);
    small = omega (arith, s.small, e);
    read = s.read ++ numbers (piece 10 text at);
    done =
        s.done
        ∙ ap (λ (xs : List ℕ). s.read ++ xs) (line-numbers text at end e s.reached.inside l)
        ∙ sym (append_assoc s.read (numbers (piece 10 text at)) (step_numbers (pieces_from 10 text (end + 1))));
    kept = k;
  }

  pub scanning-end : length text ≤ at → (bad_line 4 (pieces_from 10 text from) ≡ 0) × Kept (step_numbers (pieces_from 10 text from)) steps count
  unfolding bad_line step_numbers
  scanning-end h =
      let none : piece 10 text at ≡ [] = piece-past 10 text at h in
      let last : pieces_from 10 text at ≡ [] ∷ [] =
      pieces_step 10 text at s.reached.inside ∙ rw none (ap (λ (ps : List (List ℕ)). [] ∷ ps) (pieces-past 10 text (at + 0 + 1) (omega (arith, h)))) in
      let all : s.read ≡ step_numbers (pieces_from 10 text from) = sym (s.done ∙ ap (λ (ps : List (List ℕ)). s.read ++ step_numbers ps) last ∙ append-nil s.read) in
      (s.reached.decides ∙ ap (bad_line j) last ∙ rw (lt-ltb 3 j s.late), rw (sym all) s.kept)

-- the first three lines
pub head-start : (text : List ℕ) → malformed text ≡ bad_line 1 (pieces_from 10 text 0)
unfolding malformed
head-start text = ap (bad_line 1) (sym (pieces-all 10 text))

module _ (text : List ℕ) (a b c : ℕ) (ha : a ≡ 0 + length (piece 10 text 0)) (la : a < length text) (hb : b ≡ a + 1 + length (piece 10 text (a + 1))) (lb : b < length text)
    (hc : c ≡ b + 1 + length (piece 10 text (b + 1))) (lc : c < length text) where
  head-pieces : cut_at 10 text ≡ piece 10 text 0 ∷ (piece 10 text (a + 1) ∷ (piece 10 text (b + 1) ∷ pieces_from 10 text (c + 1)))
  head-pieces =
      sym (pieces-all 10 text)
      ∙ line_first text 0 a ha (omega arith) la
      ∙ ap (λ (ps : List (List ℕ)). piece 10 text 0 ∷ ps)
      (line_first text (a + 1) b hb (omega arith) lb
      ∙ ap (λ (ps : List (List ℕ)). piece 10 text (a + 1) ∷ ps) (line_first text (b + 1) c hc (omega arith) lc))

  steps-are : steps_in text ≡ step_numbers (pieces_from 10 text (c + 1))
  unfolding steps_in
  steps-are = ap (λ (ps : List (List ℕ)). step_numbers (drop 3 ps)) head-pieces

  -- what is known after all lines, from what is known after the lines of steps
  pub head-good : (r : Result (Option ℕ) Malformed) (figures steps : List ℕ) → malformed text ≡ bad_line 4 (pieces_from 10 text (c + 1)) → figures ≡ numbers (piece 10 text (a + 1))
      → StepsScanned r text (c + 1) steps → Scanned r text figures steps
  head-good (Err bad) figures steps e f h = (e ∙ h.0, h.1)
  head-good (Ok count) figures steps e f h = (
    e ∙ h.0,
    f ∙ sym (ap (λ (ps : List (List ℕ)). numbers (front (drop 1 ps))) head-pieces),
    rw steps-are h.1,
  )
