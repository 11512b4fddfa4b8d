-- The loops of the moves: the rows written in order, each behind the one before it.
--     Halving, halving-none, halving-next, halving-all       to the new layout: before each turn, before the first row, a row more, and after the last
--     Widening, widening-none, widening-next, widening-all   the same to the layout before
--     halving-room, widening-room, widening-part             a row's room on either side, and its length where it is read
-- Assumes nothing.
use mathlib.Core.Path.{◌≡◌, refl, sym, ap, subst, ◌∙◌}
use mathlib.Core.List.{List, ◌++◌}
use Prim.Native.Nat.{ℕ, ◌+◌, ◌-◌, ◌*◌, ◌≤◌, ◌<◌}
use native.Mathlib.Nat.{zero-mul}
use native.Mathlib.Decide.{dec_lt}
use native.Mathlib.Omega.{arith}
use lib.ListN.{length, take, drop, replicate, length-append, length-replicate, get_or-append}
use lib.Seq.{get_or-append-add}
use Rattle.lists.specs.Places.{tab, at}
use Rattle.lists.proofs.Tabs.{is-tab}
use Rattle.lists.proofs.Parts.{part_length, part_at, cut-length, zeros-at}
use Rattle.lists.proofs.Overwrite.{Written, written_none, written-part, written_all}
use Rattle.plan.specs.Parts.{store_size, full_size}
use Rattle.store.specs.Elimination.{row_start, cells}
use Rattle.moves.specs.Moves.{full_cells, halved, widened}
use Rattle.moves.specs.FullRows.{full_row}
use Rattle.moves.proofs.FullChunks.{row-place}
use Rattle.store.proofs.RowStarts.{start-zero, start-next, start-last, row-end}
use Rattle.store.proofs.Bytes.{cells_left, cells_right, flat-length, flat-at}
use Rattle.moves.proofs.FullLayout.{full-length, full-end, cells-full}

-- a list is what stands at its places
all-places : (xs : List ℕ) (n : ℕ) → length xs ≡ n → tab n (at xs) ≡ xs
all-places xs n e = sym (is-tab xs n (at xs) 0 e (λ i l. refl))

pub record Halving (C : ℕ) (full before : List ℕ) (q to : ℕ) (half : List ℕ) : Type 0 where
  pub within : q ≤ C
  pub writes : to ≡ row_start C q + q
  pub written : Written (store_size C) (at (halved C full)) before to half

pub halving-none : (C : ℕ) (full half : List ℕ) → length half ≡ store_size C → Halving C full half 0 0 half
halving-none C full half e =
    record {
      within = omega arith;
      writes = omega (arith, start-zero C);
      written = written_none (store_size C) (at (halved C full)) half e;
    }

module _ {C : ℕ} {full before : List ℕ} {q to : ℕ} {half : List ℕ} (w : Halving C full before q to half) where
  pub halving-all : C ≤ q → half ≡ halved C full
  halving-all h =
      let e : q ≡ C = omega (arith, w.within) in
      written_all w.written (omega (arith, w.writes, ap (λ (n : ℕ). row_start C n + n) e, start-last C))
      ∙ all-places (halved C full) (store_size C) (flat-length C (full_cells C full))

  module _ (l : q < C) where
    pub halving-room : to + (C + 1 - q) ≤ store_size C
    halving-room = omega (arith, w.writes, row-end C q l)

    pub halving-next : (row : List ℕ) → row ≡ full_row C full q → length row ≡ C + 1 → (ys : List ℕ) → ys ≡ take (length row - q) (drop q row)
        → Halving C full before (q + 1) (to + (C + 1 - q)) (take to half ++ (ys ++ drop (to + (C + 1 - q) - to) (drop to half)))
    halving-next row whole count ys e =
        record {
          within = omega arith;
          writes = omega (arith, w.writes, start-next C q);
          written = written-part (C + 1 - q) ys w.written halving-room (e ∙ ap (λ (n : ℕ). take (n - q) (drop q row)) count ∙ kept);
        }
      where
        kept : take (C + 1 - q) (drop q row) ≡ tab (C + 1 - q) (λ k. at (halved C full) (to + k))
        kept =
            is-tab (take (C + 1 - q) (drop q row)) (C + 1 - q) (λ k. at (halved C full) (to + k)) 0 (part_length row q (C + 1 - q) (omega arith))
            (λ k h.
            let write : row_start C q + (q + k) ≡ to + k = omega (arith, w.writes) in
            part_at row q (C + 1 - q) k h
            ∙ ap (λ (xs : List ℕ). at xs (q + k)) whole
            ∙ row-place C full q (q + k) (omega arith)
            ∙ sym (flat-at C (full_cells C full) q (q + k) l (omega arith) (omega arith))
            ∙ ap (at (halved C full)) write)

pub record Widening (C : ℕ) (half before : List ℕ) (q from : ℕ) (full : List ℕ) : Type 0 where
  pub within : q ≤ C
  pub reads : from ≡ row_start C q + q
  pub written : Written (full_size C) (at (widened C half)) before (q * (C + 1)) full

pub widening-none : (C : ℕ) (half full : List ℕ) → length full ≡ full_size C → Widening C half full 0 0 full
widening-none C half full e =
    record {
      within = omega arith;
      reads = omega (arith, start-zero C);
      written = rw (zero-mul (C + 1)) (written_none (full_size C) (at (widened C half)) full e);
    }

module _ {C : ℕ} {half before : List ℕ} {q from : ℕ} {full : List ℕ} (w : Widening C half before q from full) where
  pub widening-all : C ≤ q → full ≡ widened C half
  unfolding full_size
  widening-all h =
      let e : q ≡ C = omega (arith, w.within) in
      written_all w.written (omega (arith, ap (λ (n : ℕ). n * (C + 1)) e))
      ∙ all-places (widened C half) (full_size C) (full-length C (cells C half))

  module _ (fits : length half ≡ store_size C) (l : q < C) where
    abbrev to : ℕ
    to = q * (C + 1)

    pub widening-room : (from + (C + 1 - q) ≤ length half) × (to + (C + 1) ≤ full_size C)
    widening-room = (omega (arith, w.reads, row-end C q l), full-end C q l)

    abbrev part : List ℕ
    part = take (from + (C + 1 - q) - from) (drop from half)

    pub widening-part : length part ≡ C + 1 - q
    widening-part = cut-length half from (C + 1 - q) widening-room.0

    pub widening-next : (ys : List ℕ) → ys ≡ replicate q 0 ++ part
        → Widening C half before (q + 1) (from + (C + 1 - q)) (take to full ++ (ys ++ drop (to + (C + 1) - to) (drop to full)))
    widening-next ys e =
        record {
          within = omega arith;
          reads = omega (arith, w.reads, start-next C q);
          written =
              let next : to + (C + 1) ≡ (q + 1) * (C + 1) = omega arith in
              subst (λ (n : ℕ). Written (full_size C) (at (widened C half)) before n (take to full ++ (ys ++ drop (to + (C + 1) - to) (drop to full)))) next
              (written-part (C + 1) ys w.written widening-room.1 (e ∙ row));
        }
      where
        places : (k : ℕ) → k < C + 1 → at (replicate q 0 ++ part) k ≡ cells C half q k
        places k h = elim (dec_lt k q) [
          | yes b ↦
              get_or-append (replicate q 0) part 0 k (rw length-replicate b) ∙ zeros-at q k ∙ sym (cells_left C half q k b)
          | no b ↦
              let place : length (replicate {A = ℕ} q 0) + (k - q) ≡ k = omega (arith, length-replicate {A = ℕ} q 0) in
              let read : from + (k - q) ≡ row_start C q + k = omega (arith, w.reads) in
              ap (at (replicate q 0 ++ part)) (sym place)
              ∙ get_or-append-add (replicate q 0) part (k - q) 0
              ∙ part_at half from (from + (C + 1 - q) - from) (k - q) (omega arith)
              ∙ ap (at half) read
              ∙ sym (cells_right C half q k (omega arith))
        ]

        row : replicate q 0 ++ part ≡ tab (C + 1) (λ k. at (widened C half) (to + k))
        row =
            is-tab (replicate q 0 ++ part) (C + 1) (λ k. at (widened C half) (to + k)) 0 (rw (length-append, length-replicate) (omega (arith, widening-part)))
            (λ k h.
            places k h ∙ sym (cells-full C (cells C half) q k l (omega arith)))
