-- The rows of a store in the layout before C-16, one by one in order: each is cut from the front of what is left of the store.
--     row-place                 what stands in a row
--     chunk-row, chunk-rest     a row, cut off, is the row of the store; and what is left is that behind it
--     chunk-within, chunks-all  a row that was cut off is one of the C rows; where no row is left, there were C
-- Assumes nothing.
use mathlib.Core.Path.{◌≡◌, sym, ap, ◌∙◌}
use mathlib.Core.List.{List, ◌++◌}
use Prim.Native.Nat.{ℕ, ◌+◌, ◌*◌, ◌≤◌, ◌<◌}
use native.Mathlib.Decide.{dec_lt}
use native.Mathlib.Omega.{arith}
use lib.ListN.{length, take, drop, length-drop, length-append}
use lib.Seq.{take_at, drop_at, drop-drop}
use Rattle.lists.specs.Places.{at}
use Rattle.lists.proofs.Parts.{part_at}
use Rattle.plan.specs.Parts.{full_size}
use Rattle.moves.specs.Moves.{full_cells}
use Rattle.moves.specs.FullRows.{full_row}
use Rattle.moves.proofs.FullLayout.{full-end}

module _ (C : ℕ) (full : List ℕ) where
  pub row-place : (q j : ℕ) → j ≤ C → at (full_row C full q) j ≡ full_cells C full q j
  row-place q j h = part_at full (q * (C + 1)) (C + 1) j (omega arith)

  module _ (q : ℕ) (row rest : List ℕ) (cut : drop (q * (C + 1)) full ≡ row ++ rest) (count : length row ≡ C + 1) where
    pub chunk-row : row ≡ full_row C full q
    chunk-row = sym (ap (take (C + 1)) cut ∙ take_at row rest (C + 1) count)

    pub chunk-rest : rest ≡ drop ((q + 1) * (C + 1)) full
    chunk-rest =
        let next : q * (C + 1) + (C + 1) ≡ (q + 1) * (C + 1) = omega arith in
        sym (ap (λ (n : ℕ). drop n full) (sym next) ∙ sym (drop-drop (C + 1) (q * (C + 1)) full) ∙ ap (drop (C + 1)) cut ∙ drop_at row rest (C + 1) count)

    pub chunk-within : length full ≡ full_size C → q ≤ C → q < C
    unfolding full_size
    chunk-within fits h = elim (dec_lt q C) [
      | yes l ↦ l
      | no l ↦
          let e : q ≡ C = omega arith in
          absurd (omega (arith, ap length cut, length-drop (q * (C + 1)) full, length-append row rest, ap (λ (n : ℕ). n * (C + 1)) e, fits))
    ]

  pub chunks-all : (q : ℕ) → length full ≡ full_size C → length (drop (q * (C + 1)) full) < C + 1 → C ≤ q
  chunks-all q fits h = elim (dec_lt q C) [
    | yes l ↦ absurd (omega (arith, full-end C q l, length-drop (q * (C + 1)) full, fits))
    | no l ↦ omega arith
  ]
