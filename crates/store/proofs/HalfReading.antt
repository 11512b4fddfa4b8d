-- The rows of a store as the test takes them, and that the test is one of reduced form.
--     row_count, row-place       a row from its diagonal on: its length and its places
--     row_room, row_cut, row_next      as the loop cuts it, from its diagonal, which is `begin`: its room in the store, what it is, and where the next begins
--     half-tested                the test of a store
-- Assumes nothing.
use mathlib.Core.Path.{◌≡◌, sym, ap, ap₂, ◌∙◌}
use mathlib.Core.Bool.{not, not-not}
use mathlib.Core.List.{List}
use Prim.Native.Nat.{ℕ, ◌+◌, ◌-◌, ◌≤◌, ◌<◌}
use native.Mathlib.Nat.{add-sub_cancel_left}
use native.Mathlib.Omega.{arith}
use lib.ListN.{length, take, drop}
use Rattle.lists.specs.Places.{at}
use Rattle.lists.proofs.Parts.{part_length, part_at}
use Rattle.plan.specs.Parts.{store_size}
use Rattle.store.specs.Elimination.{is_reduced, row_start, cells}
use Rattle.store.specs.Reading.{state_after, is_damaged, row_of}
use Rattle.store.proofs.RowStarts.{start-next, row-end}
use Rattle.store.proofs.Bytes.{cells_left, cells_right}
use Rattle.store.proofs.OneReading.{damaged-exactly}

module _ (C : ℕ) (store : List ℕ) (q : ℕ) where
  row_count : length store ≡ store_size C → q < C → length (row_of C store q) ≡ C + 1 - q
  row_count fits l = part_length store (row_start C q + q) (C + 1 - q) (omega (arith, row-end C q l))

  row-place : (i : ℕ) → q + i ≤ C → at (row_of C store q) i ≡ at store (row_start C q + (q + i))
  row-place i h =
      let e : row_start C q + q + i ≡ row_start C q + (q + i) = omega arith in
      part_at store (row_start C q + q) (C + 1 - q) i (omega arith) ∙ ap (at store) e

  module _ (begin : ℕ) (begins : begin ≡ row_start C q + q) where
    pub row_room : length store ≡ store_size C → q < C → begin + (C + 1 - q) ≤ length store
    row_room fits l = omega (arith, begins, row-end C q l)

    pub row_cut : take (begin + (C + 1 - q) - begin) (drop begin store) ≡ row_of C store q
    row_cut = ap₂ (λ (n a : ℕ). take n (drop a store)) (add-sub_cancel_left begin (C + 1 - q)) begins

    pub row_next : q < C → begin + (C + 1 - q) ≡ row_start C (q + 1) + (q + 1)
    row_next l = omega (arith, begins, start-next C q)

pub half-tested : (p C : ℕ) (store : List ℕ) → 2 ≤ p → length store ≡ store_size C
    → not (is_damaged p (state_after p C (row_of C store) C)) ≡ is_reduced p C (cells C store)
half-tested p C store low fits =
    ap not
    (damaged-exactly p C (cells C store) (row_of C store) (λ q j l h. cells_left C store q j h) low (λ q l. row_count C store q fits l)
    (λ q i l h. row-place C store q i h ∙ sym (cells_right C store q (q + i) (omega arith))))
    ∙ not-not (is_reduced p C (cells C store))
