-- The test of a store in the layout before C-16, which takes whole rows: what lies left of the diagonals is told apart from the rest, which is tested
-- as in the new layout.
--     full-next                  the state after a row more
--     full-damaged-exactly       after the last row the state says damaged exactly when the store is not in reduced form
--     reduced-exactly            and not damaged exactly when it is
-- Assumes nothing.
use mathlib.Core.Path.{◌≡◌, refl, sym, ap, ◌∙◌}
use mathlib.Core.Bool.{Bool, true, false, not, not-not, ◌&&◌, true≢false}
use mathlib.Core.Logic.{◌↔◌}
use mathlib.Core.List.{List}
use Prim.Native.Nat.{ℕ, zero, suc, ◌+◌, ◌-◌, ◌*◌, ◌≤◌, ◌<◌}
use native.Mathlib.Numerals.{add-one}
use native.Mathlib.Decide.{dec_lt}
use native.Mathlib.Omega.{arith}
use lib.ListN.{length, take, drop, length-take, length-drop}
use lib.Seq.{get_or-take, get_or-drop}
use Rattle.lists.specs.Places.{every, at}
use Rattle.lists.proofs.Tests.{refute, every-at, every_of}
use Rattle.lists.proofs.Parts.{part_length, at-past}
use Rattle.field.specs.Residues.{Residues}
use Rattle.field.specs.Rows.{all_below}
use Rattle.field.proofs.Ranges.{residues-of, below_of}
use Rattle.plan.specs.Parts.{full_size}
use Rattle.store.specs.Elimination.{is_reduced}
use Rattle.store.specs.Reading.{State, state_of, row_sound, state_after, is_damaged}
use Rattle.store.proofs.ReducedForm.{is_reduced-means, left-zero}
use Rattle.store.proofs.OneReading.{damaged-exactly}
use Rattle.moves.specs.Moves.{full_cells}
use Rattle.moves.specs.FullRows.{full_row, full_took, full_after}
use Rattle.moves.proofs.FullLayout.{full-end}
use Rattle.moves.proofs.FullChunks.{row-place}

-- the tests of a row, in the order of the code and in that of the two halves
moved : (row left lefts rows : Bool) → (row && (left && (lefts && rows))) ≡ ((lefts && left) && (row && rows))
moved true true true rows = refl
moved true true false rows = refl
moved true false true rows = refl
moved true false false rows = refl
moved false true true rows = refl
moved false true false rows = refl
moved false false true rows = refl
moved false false false rows = refl

module _ (C : ℕ) (full : List ℕ) where
  -- a row's two halves
  abbrev left : ℕ → Bool
  left q = all_below 1 (take q (full_row C full q))

  abbrev kept : ℕ → List ℕ
  kept q = drop q (full_row C full q)

  pub full-next : (p q : ℕ) → full_after p C full (q + 1) ≡ full_took p q (full_after p C full q) (full_row C full q)
  unfolding full_after
  full-next p q = rw (add-one q)

  left-means : (every left C ≡ true) ↔ ((q j : ℕ) → q < C → j < q → full_cells C full q j ≡ 0)
  left-means = (
    (λ h q j l k.
        sym (get_or-take q (full_row C full q) j 0 k ∙ row-place C full q j (omega arith))
        ∙ omega (arith, residues-of 1 (take q (full_row C full q)) (omega arith) (every-at left C h q l) j)),
    (λ h. every_of left C (λ q l. below_of 1 (take q (full_row C full q)) (zeros h q l))),
  )
    where
      zeros : ((q j : ℕ) → q < C → j < q → full_cells C full q j ≡ 0) → (q : ℕ) → q < C → Residues 1 (take q (full_row C full q))
      zeros h q l j = elim (dec_lt j q) [
        | yes k ↦ omega (arith, get_or-take q (full_row C full q) j 0 k, row-place C full q j (omega arith), h q j l k)
        | no k ↦ omega (arith, at-past (take q (full_row C full q)) j (rw length-take (omega arith)))
      ]

  -- the state is that of the rows from their diagonals on, and whether nothing lay left of them
  halves : (p q : ℕ) → full_after p C full q ≡ state_of (every left q && (state_after p C kept q).sound) (state_after p C kept q).tops
  unfolding full_after state_after every
  halves p zero = refl
  halves p (suc q) =
      ap (λ (s : State). full_took p q s (full_row C full q)) (halves p q)
      ∙ ap (λ (b : Bool). state_of b (state_after p C kept (suc q)).tops)
      (moved (row_sound p (at (state_after p C kept q).tops 0) (kept q)) (left q) (every left q) (state_after p C kept q).sound)

  module _ (p : ℕ) (low : 2 ≤ p) (fits : length full ≡ full_size C) where
    rows-damaged : every left C ≡ true → is_damaged p (state_after p C kept C) ≡ not (is_reduced p C (full_cells C full))
    rows-damaged zero_left =
        damaged-exactly p C (full_cells C full) kept (left-means.0 zero_left) low
        (λ q l. length-drop q (full_row C full q) ∙ ap (λ (n : ℕ). n - q) (part_length full (q * (C + 1)) (C + 1) (omega (arith, full-end C q l))))
        (λ q i l h. get_or-drop q (full_row C full q) i 0 ∙ row-place C full q (q + i) h)

    unreduced : every left C ≡ false → is_reduced p C (full_cells C full) ≡ false
    unreduced some =
        refute (is_reduced p C (full_cells C full))
        (λ e. true≢false (sym (left-means.1 (left-zero p C (full_cells C full) ((is_reduced-means p C (full_cells C full)).0 e))) ∙ some))

    by-halves : (b : Bool) → every left C ≡ b → is_damaged p (state_of (b && (state_after p C kept C).sound) (state_after p C kept C).tops) ≡ not (is_reduced p C (full_cells C full))
    unfolding is_damaged
    by-halves true e = rows-damaged e
    by-halves false e = sym (ap not (unreduced e))

    pub full-damaged-exactly : is_damaged p (full_after p C full C) ≡ not (is_reduced p C (full_cells C full))
    full-damaged-exactly = ap (is_damaged p) (halves p C) ∙ by-halves (every left C) refl

    pub reduced-exactly : not (is_damaged p (full_after p C full C)) ≡ is_reduced p C (full_cells C full)
    reduced-exactly = ap not full-damaged-exactly ∙ not-not (is_reduced p C (full_cells C full))
