-- A row of a store from column k on, as the code cuts it, and the store with such a part overwritten. Column k is one that the row keeps.
--     RowAt               column 0 of row q would stand at `begin`
--     row_fits            it ends within the store
--     row_tail, tail-length, tail_at, tail-residues      the row from column k on, and its places
--     tail_pasted         the store with the row from column k on overwritten, as the code leaves it
--     tail-size           its length
--     tail-row, tail-left, tail-other      its places: in the row written from column k on, left of column k, and in another row
-- Assumes nothing.
use mathlib.Core.Path.{◌≡◌, sym, ap, ◌∙◌}
use mathlib.Core.Logic.{◌≢◌}
use mathlib.Core.List.{List, ◌++◌}
use Prim.Native.Nat.{ℕ, ◌+◌, ◌-◌, ◌≤◌, ◌<◌}
use native.Mathlib.Decide.{dec_lt}
use native.Mathlib.Omega.{arith}
use lib.ListN.{length, take, drop}
use Rattle.lists.specs.Places.{placed, at}
use Rattle.lists.proofs.Parts.{part_length, part_at, at-past}
use Rattle.lists.proofs.Placing.{placed-length, placed-before, placed-within, placed-after, lent_placed}
use Rattle.field.specs.Residues.{Residues}
use Rattle.plan.specs.Parts.{store_size}
use Rattle.store.specs.Elimination.{row_start, cells}
use Rattle.store.proofs.RowStarts.{row-end, rows_apart}
use Rattle.store.proofs.Bytes.{cells_left, cells_right}

pub record RowAt (C : ℕ) (store : List ℕ) (q begin : ℕ) : Type 0 where
  pub size : length store ≡ store_size C
  pub inside : q < C
  pub begins : begin ≡ row_start C q

abbrev pub row_tail : ℕ → List ℕ → ℕ → ℕ → List ℕ
row_tail C store begin k = take (begin + (C + 1) - (begin + k)) (drop (begin + k) store)

abbrev pub tail_pasted : ℕ → List ℕ → ℕ → ℕ → List ℕ → List ℕ
tail_pasted C store begin k ys = take (begin + k) store ++ (ys ++ drop (begin + (C + 1) - (begin + k)) (drop (begin + k) store))

module _ {C : ℕ} {store : List ℕ} {q begin : ℕ} (row : RowAt C store q begin) where
  pub row_fits : begin + (C + 1) ≤ length store
  row_fits = omega (arith, row-end C q row.inside, row.size, row.begins)

  module _ {k : ℕ} (low : q ≤ k) (h : k ≤ C) where
    width : begin + (C + 1) - (begin + k) ≡ C + 1 - k
    width = omega arith

    pub tail-length : length (row_tail C store begin k) ≡ C + 1 - k
    tail-length = part_length store (begin + k) (begin + (C + 1) - (begin + k)) (omega (arith, row_fits)) ∙ width

    pub tail_at : (i : ℕ) → i < C + 1 - k → at (row_tail C store begin k) i ≡ cells C store q (k + i)
    tail_at i b =
        let e : begin + k + i ≡ row_start C q + (k + i) = omega (arith, row.begins) in
        part_at store (begin + k) (begin + (C + 1) - (begin + k)) i (rw width b) ∙ ap (at store) e ∙ sym (cells_right C store q (k + i) (omega arith))

    pub tail-residues : (p : ℕ) → 0 < p → ((j : ℕ) → j ≤ C → cells C store q j < p) → Residues p (row_tail C store begin k)
    tail-residues p pos small i = elim (dec_lt i (C + 1 - k)) [
      | yes b ↦ rw (tail_at i b) (small (k + i) (omega arith))
      | no b ↦ rw (at-past (row_tail C store begin k) i (rw tail-length (omega arith))) pos
    ]

    module _ (ys : List ℕ) (same : length ys ≡ C + 1 - k) where
      room : begin + k + length ys ≤ length store
      room = omega (arith, row_fits)

      overwritten : tail_pasted C store begin k ys ≡ placed store (begin + k) ys
      overwritten = lent_placed store (begin + k) (begin + (C + 1) - (begin + k)) ys (same ∙ sym width)

      pub tail-size : length (tail_pasted C store begin k ys) ≡ length store
      tail-size = ap length overwritten ∙ placed-length store (begin + k) ys room

      abbrev new : List ℕ
      new = placed store (begin + k) ys

      pub tail-row : (j : ℕ) → k ≤ j → j ≤ C → cells C (tail_pasted C store begin k ys) q j ≡ at ys (j - k)
      tail-row j from high =
          let e : row_start C q + j ≡ begin + k + (j - k) = omega (arith, row.begins) in
          ap (λ (xs : List ℕ). cells C xs q j) overwritten
          ∙ cells_right C new q j (omega arith)
          ∙ ap (at new) e
          ∙ placed-within store (begin + k) ys room (j - k) (omega arith)

      -- a place that is not overwritten
      still : (r j : ℕ) → (r ≤ j → at new (row_start C r + j) ≡ at store (row_start C r + j)) → cells C (tail_pasted C store begin k ys) r j ≡ cells C store r j
      still r j same = ap (λ (xs : List ℕ). cells C xs r j) overwritten ∙ elim (dec_lt j r) [
        | yes b ↦ cells_left C new r j b ∙ sym (cells_left C store r j b)
        | no b ↦ let b' : r ≤ j = omega arith in cells_right C new r j b' ∙ same b' ∙ sym (cells_right C store r j b')
      ]

      pub tail-left : (j : ℕ) → j < k → cells C (tail_pasted C store begin k ys) q j ≡ cells C store q j
      tail-left j before = still q j (λ _. placed-before store (begin + k) ys room (row_start C q + j) (omega (arith, row.begins)))

      pub tail-other : (r j : ℕ) → r < C → r ≢ q → j ≤ C → cells C (tail_pasted C store begin k ys) r j ≡ cells C store r j
      tail-other r j l d i = still r j (λ from. elim (dec_lt r q) [
        | yes b ↦ placed-before store (begin + k) ys room (row_start C r + j) (omega (arith, rows_apart C r q l b, row.begins))
        | no b ↦
            let b' : q < r = omega arith in
            placed-after store (begin + k) ys room (row_start C r + j) (omega (arith, rows_apart C q r row.inside b', row.begins))
      ])
