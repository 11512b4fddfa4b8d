-- Serves 02, C-15: what the code knows of a text when it has read its lines once. The contracts of the functions that read it cite it; the
-- meaning of a listing does not need it. The numbers of the steps go to the front of a list of 16-bit numbers; where they do not fit there, they
-- have no count.
--     fits v room count         the numbers v have room behind `count` others, and 16 bits each, as a test
--     count_after v room count  the count after them, where they and those before fit
--     Kept ns steps count       the numbers ns stand at the front of the list (`Held`); or there is no count, and they do not fit (`Lost`)
--     figures_in text           the numbers of the second line
--     StepsScanned r text i steps          what is known after the lines from line 4 on, which begins at place i
--     Scanned r text figures steps         what is known after all lines
use Rattle.std.specs.Prelude.{◌≡◌, Bool, true, cond, ◌&&◌, List, Option, Some, None, Result, Ok, Err, ℕ, ◌+◌, ◌≤◌, ◌<◌, leb, length, take, drop}
use Rattle.field.specs.Rows.{all_below}
use Rattle.lines.specs.Lines.{cut_at, numbers}
use Rattle.lines.specs.Words.{front, pieces_from}
use Rattle.readback.specs.Listings.{bad_line, step_numbers, malformed, steps_in}
use Rattle.readback.specs.declared.scanning.Malformed.{Malformed}

abbrev pub fits : List ℕ → ℕ → ℕ → Bool
fits v room count = leb (count + length v) room && all_below 65536 v

abbrev pub count_after : List ℕ → ℕ → Option ℕ → Option ℕ
count_after v room None = None
count_after v room (Some count) = cond (fits v room count) (Some (count + length v)) None

pub record Held (ns steps : List ℕ) (count : ℕ) : Type 0 where
  pub room : count ≤ length steps
  pub list : take count steps ≡ ns

pub record Lost (ns steps : List ℕ) : Type 0 where
  pub unfit : length ns ≤ length steps → all_below 65536 ns ≡ true → ⊥

abbrev pub Kept : List ℕ → List ℕ → Option ℕ → Type 0
Kept ns steps (Some count) = Held ns steps count
Kept ns steps None = Lost ns steps

abbrev pub figures_in : List ℕ → List ℕ
figures_in text = numbers (front (drop 1 (cut_at 10 text)))

abbrev pub StepsScanned : Result (Option ℕ) Malformed → List ℕ → ℕ → List ℕ → Type 0
StepsScanned (Err bad) text i steps = (bad_line 4 (pieces_from 10 text i) ≡ bad.line) × (0 < bad.line)
StepsScanned (Ok count) text i steps = (bad_line 4 (pieces_from 10 text i) ≡ 0) × Kept (step_numbers (pieces_from 10 text i)) steps count

abbrev pub Scanned : Result (Option ℕ) Malformed → List ℕ → List ℕ → List ℕ → Type 0
Scanned (Err bad) text figures steps = (malformed text ≡ bad.line) × (0 < bad.line)
Scanned (Ok count) text figures steps = (malformed text ≡ 0) × (figures ≡ figures_in text) × Kept (steps_in text) steps count
