-- The lines of a text as `split_inclusive` cuts them off: each with its LF, where it has one.
--     Cutting text from steps left j count      the lines of steps have been read up to line j (`Scanning`), and left is what is left of the text
--     cutting-next, cutting-end                 one line more, and after the last
--     cut-some                                  where something is left, the text does not end
--     cut-broken, cut-whole                     the next line without a LF, and with one
-- Assumes nothing.
use mathlib.Core.Path.{◌≡◌, refl, sym, ap, subst, ◌∙◌}
use mathlib.Core.Bool.{Bool, true, false, false≢true, ◌&&◌}
use mathlib.Core.List.{List, [], ◌∷◌, ◌++◌}
use Prim.Native.Nat.{ℕ, zero, suc, ◌+◌, ◌-◌, ◌≤◌, ◌<◌}
use native.Mathlib.Decide.{dec_lt}
use native.Mathlib.Omega.{arith}
use lib.Dec.{eqb}
use lib.ListN.{length, take, drop, length-drop, get_or-append}
use lib.Seq.{take-append-le, drop_at, drop-drop}
use lib.Pointwise.{pointwise}
use Rattle.std.specs.Prelude.{Option, min}
use Rattle.std.specs.List.{position_or_len, IsFirstMatchOrLen}
use Rattle.std.proofs.lemmas.List.Sums.{position_or_len_is, fails_before_first, passes_at_first}
use Rattle.lists.specs.Places.{at}
use Rattle.lines.specs.Lines.{asks, numbers}
use Rattle.lines.specs.Words.{piece, pieces_from}
use Rattle.lines.proofs.WordLaws.{front-size, piece-part}
use Rattle.readback.specs.Listings.{bad_line, step_numbers}
use Rattle.readback.specs.Scanned.{Kept}
use Rattle.readback.proofs.Scanlines.{Scanning, scanning-next, scanning-end}

pub record Cutting (text : List ℕ) (from : ℕ) (steps left : List ℕ) (j : ℕ) (count : Option ℕ) : Type 0 where
  pub place : ℕ
  pub here : left ≡ drop place text
  pub scanning : Scanning text from steps place j count

pub cutting-next : {text : List ℕ} {from : ℕ} {steps left : List ℕ} {j : ℕ} {count : Option ℕ} (v : Cutting text from steps left j count) (next after : List ℕ) (i : ℕ)
    (r : Option ℕ) → v.place + length (piece 10 text v.place) < length text → next ≡ drop (v.place + length (piece 10 text v.place) + 1) text → i ≡ j + 1
    → asks 5 4 (piece 10 text v.place) ≡ true → Kept (v.scanning.read ++ numbers (piece 10 text v.place)) after r → Cutting text from after next i r
cutting-next {text} {from} v next after i r inside e count fits kept =
    let place = v.place + length (piece 10 text v.place) + 1 in record {
      place = place;
      here = e;
      scanning = subst (λ (k : ℕ). Scanning text from after place k r) (sym count) (scanning-next v.scanning _ refl inside fits after r kept);
    }

pub cutting-end : {text : List ℕ} {from : ℕ} {steps left : List ℕ} {j : ℕ} {count : Option ℕ} → Cutting text from steps left j count → length left ≡ 0
    → (bad_line 4 (pieces_from 10 text from) ≡ 0) × Kept (step_numbers (pieces_from 10 text from)) steps count
cutting-end {text} c none = scanning-end c.scanning (omega (arith, ap length c.here, length-drop c.place text, none))

pub cut-some : (text : List ℕ) (place : ℕ) {left : List ℕ} → left ≡ drop place text → 0 < length left → place < length text
cut-some text place e some = omega (arith, ap length e, length-drop place text, some)

abbrev lf : ℕ → Bool
lf x = eqb x 10

-- whether the last byte is a LF
last-lf : (k : ℕ) (xs : List ℕ) → length xs ≡ k + 1 → pointwise eqb (drop k xs) (10 ∷ []) ≡ lf (at xs k)
last-lf k [] h = absurd (omega arith)
last-lf zero (x ∷ []) h = by (eqb x 10)
  where
    by : (b : Bool) → (b && true) ≡ b
    by true = refl
    by false = refl
last-lf zero (x ∷ (y ∷ xs)) h = absurd (omega arith)
last-lf (suc k) (x ∷ xs) h = last-lf k xs (omega arith)

module _ (text : List ℕ) (place n : ℕ) (left line next : List ℕ) (here : left ≡ drop place text) (cut : left ≡ line ++ next)
    (size : length line ≡ min (n + 1) (length left)) (first : IsFirstMatchOrLen lf left n) (some : 0 < length left) where
  abbrev words : ℕ
  words = length (piece 10 text place)

  abbrev Sized : Type 0
  Sized = (words ≤ length left) × (words < length left → length line ≡ words + 1) × (length left ≤ words → length line ≡ length left)

  words-is : words ≡ position_or_len lf left
  unfolding piece
  words-is = front-size 10 (drop place text) ∙ ap (position_or_len lf) (sym here)

  cut-size : Sized
  cut-size = elim (dec_lt n (length left)) [
    | yes h ↦
        let e = words-is ∙ position_or_len_is lf left n 0 (omega arith) (λ k l. first.0 k 0 (omega arith) l) (λ l. first.1 l 0) in
        (omega (arith, e), λ l. omega (arith, e, size), λ l. absurd (omega (arith, e)))
    | no h ↦
        let e = words-is ∙ position_or_len_is lf left (length left) 0 (omega arith) (λ k l. first.0 k 0 (omega arith) (omega arith)) (λ l. absurd (omega arith)) in
        (omega (arith, e), λ l. absurd (omega (arith, e)), λ l. omega (arith, size))
  ]

  abbrev Ends : Bool → Type 0
  Ends b = pointwise eqb (drop (length line - 1) line) (10 ∷ []) ≡ b

  same : (k : ℕ) → k < length line → at line k ≡ at left k
  same k l = sym (ap (λ (xs : List ℕ). at xs k) cut ∙ get_or-append line next 0 k l)

  ends-lf : (k : ℕ) → length line ≡ k + 1 → {b : Bool} → Ends b → lf (at left k) ≡ b
  ends-lf k e {b} h =
      let last : length line - 1 ≡ k = omega arith in
      ap lf (sym (same k (omega arith))) ∙ sym (last-lf k line e) ∙ ap (λ (j : ℕ). pointwise eqb (drop j line) (10 ∷ [])) (sym last) ∙ h

  -- no LF: the text ends with the line
  pub cut-broken : Ends false → place + words ≡ length text
  cut-broken h = elim (dec_lt words (length left)) [
    | yes l ↦
        let found : lf (at left words) ≡ true = ap (λ (k : ℕ). lf (at left k)) words-is ∙ passes_at_first lf left 0 (omega (arith, words-is)) in
        absurd (false≢true (sym (ends-lf words (cut-size.1 l) h) ∙ found))
    | no l ↦ omega (arith, cut-size.0, some, ap length here, length-drop place text)
  ]

  -- a LF: the bytes before it are the line, and what is left begins behind it
  pub cut-whole : Ends true → (front : List ℕ) → front ≡ take (length line - 1) line
      → (place + words < length text) × (front ≡ piece 10 text place) × (next ≡ drop (place + words + 1) text)
  cut-whole h front e = elim (dec_lt words (length left)) [
    | yes l ↦
        let long : length line ≡ words + 1 = cut-size.1 l in
        let before : length line - 1 ≡ words = omega (arith, long) in
        let size-is : place + words - place ≡ words = omega arith in (
          omega (arith, l, ap length here, length-drop place text),
          e ∙ ap (λ (k : ℕ). take k line) before
              ∙ sym (take-append-le words line next (omega (arith, long)))
              ∙ ap (take words) (sym cut ∙ here)
              ∙ ap (λ (k : ℕ). take k (drop place text)) (sym size-is)
              ∙ piece-part 10 text place (place + words) refl,
          sym (drop_at line next (words + 1) long)
              ∙ ap (drop (words + 1)) (sym cut ∙ here)
              ∙ drop-drop (words + 1) place text
              ∙ ap (λ (k : ℕ). drop k text) (omega arith),
        )
    | no l ↦
        let all : length line ≡ length left = cut-size.2 (omega arith) in
        let early : length left - 1 < position_or_len lf left = omega (arith, words-is, cut-size.0, some) in
        let none : lf (at left (length left - 1)) ≡ false = fails_before_first lf left (length left - 1) 0 early in
        absurd (false≢true (sym none ∙ ends-lf (length left - 1) (omega (arith, all, some)) h))
  ]
