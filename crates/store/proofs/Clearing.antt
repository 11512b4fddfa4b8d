-- A column cleared from the rows above, and the equation inserted as its row.
--     Cleared                the state of a loop over the rows above row k: r of them are cleared, the others are as they were
--     cleared-none, cleared-next, cleared-all       before the first row, a row more, and after the last
--     cleared-start          after the last row, the next one is row k
--     clears-at, cleared-residues     the row that is cleared next: where it stands, and that it has residues
--     row-cleared            where row k stands then
--     pivot-line, pivot-at, pivot-before      the pivot: its places are the normal equation's
--     row-inserted           with row k written, the store is `inserted`: left of column k nothing of it is kept
-- The rows below row k have 0 in column k, since they are zero left of their diagonal, so `inserted` leaves them as they are.
-- Assumes nothing.
use mathlib.Core.Path.{◌≡◌, refl, sym, ap, ap₂, subst⁻¹, ◌∙◌}
use mathlib.Core.Logic.{◌≢◌}
use mathlib.Core.List.{List}
use Prim.Native.Nat.{ℕ, ◌+◌, ◌-◌, ◌*◌, ◌%◌, ◌≤◌, ◌<◌}
use native.Mathlib.Nat.{add-zero, one-mul, mul-zero, sub-zero, mod-eq_of_lt, mod-lt, le_refl, le_of_lt}
use native.Mathlib.Decide.{dec_lt, ℕ_discrete}
use native.Mathlib.Omega.{arith}
use lib.ListN.{length, take, drop}
use lib.Seq.{get_or-take}
use borrow.Author.Tests.{lt-ltb, le-ltb}
use Rattle.lists.specs.Places.{at}
use Rattle.lists.proofs.Tabs.{tab-length, tab-at}
use Rattle.lists.proofs.Parts.{part_length, part_at}
use Rattle.field.specs.Residues.{Residues, inverse}
use Rattle.field.specs.Rows.{multiple, plus_multiple}
use Rattle.field.proofs.Ranges.{residues-tab}
use Rattle.field.proofs.Modular.{cong-of}
use Rattle.plan.specs.Parts.{store_size}
use Rattle.store.specs.Elimination.{Reduced, normal, inserted, row_start, cells, flat}
use Rattle.store.specs.Stages.{Line, cleared}
use Rattle.store.proofs.Bytes.{flat-length, cells-flat, flat-cells, flat-ext}
use Rattle.store.proofs.ReducedForm.{left-zero}
use Rattle.store.proofs.Inserting.{inserted-here, inserted-there}
use Rattle.store.proofs.RowStarts.{start-zero, start-next}
use Rattle.store.proofs.Pasting.{RowAt, row_tail, tail_pasted, tail-length, tail_at, tail-residues, tail-size, tail-row, tail-left, tail-other}

-- a multiple of p added to a residue
nothing : (p x y : ℕ) → x < p → (x + p * y) % p ≡ x
nothing p x y l = cong-of p (x + p * y) x 0 y (omega arith) ∙ mod-eq_of_lt l

pub record Cleared (p C : ℕ) (S : ℕ → ℕ → ℕ) (N : ℕ → ℕ) (k r begin : ℕ) (store : List ℕ) : Type 0 where
  pub within : r ≤ k
  pub begins : begin ≡ row_start C r
  pub places : length store ≡ store_size C
  pub done : (q j : ℕ) → q < C → j ≤ C → q < r → cells C store q j ≡ (S q j + (p - S q k) * N j) % p
  pub rest : (q j : ℕ) → q < C → j ≤ C → r ≤ q → cells C store q j ≡ S q j

pub cleared-none : (p C : ℕ) (N : ℕ → ℕ) (k : ℕ) (store : List ℕ) → length store ≡ store_size C → Cleared p C (cells C store) N k 0 0 store
cleared-none p C N k store e =
    record { within = omega arith; begins = sym (start-zero C); places = e; done = λ q j l h b. absurd (omega arith); rest = λ q j l h b. refl }

module _ {p C : ℕ} {S : ℕ → ℕ → ℕ} {pivot : List ℕ} {k : ℕ} (red : Reduced p C S) (line : Line p C pivot) (column : k < C) where
  pub cut-length : length (take (C + 1 - k) (drop k pivot)) ≡ C + 1 - k
  cut-length = part_length pivot k (C + 1 - k) (omega (arith, line.places))

  module _ {r begin : ℕ} {store : List ℕ} (w : Cleared p C S (at pivot) k r begin store) (l : r < k) where
    inside : r < C
    inside = omega arith

    pub clears-at : RowAt C store r begin
    clears-at = record { size = w.places; inside = inside; begins = w.begins }

    abbrev tail : List ℕ
    tail = row_tail C store begin k

    pub cleared-residues : 0 < p → Residues p (row_tail C store begin k)
    cleared-residues pos =
        tail-residues clears-at (le_of_lt l) (le_of_lt column) p pos (λ j h. rw (w.rest r j inside h (omega arith)) (red.residues r j inside h))

    module _ (before : (j : ℕ) → j < k → at pivot j ≡ 0) (ys : List ℕ) (turn : ys ≡ plus_multiple p (p - at tail 0) tail (take (C + 1 - k) (drop k pivot))) where
      tail-place : (i : ℕ) → i < C + 1 - k → at tail i ≡ S r (k + i)
      tail-place i h = tail_at clears-at (le_of_lt l) (le_of_lt column) i h ∙ w.rest r (k + i) inside (omega arith) (omega arith)

      count : length tail ≡ C + 1 - k
      count = tail-length clears-at (le_of_lt l) (le_of_lt column)

      size : length ys ≡ C + 1 - k
      size = ap length turn ∙ tab-length (length tail) (λ j. (at tail j + (p - at tail 0) * at (take (C + 1 - k) (drop k pivot)) j) % p) ∙ count

      place : (i : ℕ) → i < C + 1 - k → at ys i ≡ (S r (k + i) + (p - S r k) * at pivot (k + i)) % p
      place i h =
          ap (λ (xs : List ℕ). at xs i) turn
          ∙ tab-at (length tail) (λ j. (at tail j + (p - at tail 0) * at (take (C + 1 - k) (drop k pivot)) j) % p) 0 i (rw count h)
          ∙ ap₂ (λ (a b : ℕ). (a + (p - b) * at (take (C + 1 - k) (drop k pivot)) i) % p) (tail-place i h) (tail-place 0 (omega arith) ∙ ap (S r) (add-zero k))
          ∙ ap (λ (a : ℕ). (S r (k + i) + (p - S r k) * a) % p) (part_at pivot k (C + 1 - k) i h)

      row : (j : ℕ) → j ≤ C → cells C (tail_pasted C store begin k ys) r j ≡ (S r j + (p - S r k) * at pivot j) % p
      row j h = elim (dec_lt j k) [
        | yes b ↦
            tail-left clears-at (le_of_lt l) (le_of_lt column) ys size j b
            ∙ w.rest r j inside h (omega arith)
            ∙ rw (before j b, mul-zero (p - S r k), add-zero (S r j)) (sym (mod-eq_of_lt (red.residues r j inside h)))
        | no b ↦
            let e : k + (j - k) ≡ j = omega arith in
            tail-row clears-at (le_of_lt l) (le_of_lt column) ys size j (omega arith) h
            ∙ place (j - k) (omega arith)
            ∙ ap (λ (i : ℕ). (S r i + (p - S r k) * at pivot i) % p) e
      ]

      other : (q j : ℕ) → q < C → q ≢ r → j ≤ C → cells C (tail_pasted C store begin k ys) q j ≡ cells C store q j
      other = tail-other clears-at (le_of_lt l) (le_of_lt column) ys size

      pub cleared-next : Cleared p C S (at pivot) k (r + 1) (begin + (C - r)) (tail_pasted C store begin k ys)
      cleared-next =
          record {
            within = omega arith;
            begins = omega (arith, w.begins, start-next C r);
            places = tail-size clears-at (le_of_lt l) (le_of_lt column) ys size ∙ w.places;
            done = λ q j a h b. elim (ℕ_discrete q r) [
              | yes e ↦ rw e (row j h)
              | no d ↦ other q j a d h ∙ w.done q j a h (omega arith)
            ];
            rest = λ q j a h b. let d : q ≢ r = (λ e. omega arith) in other q j a d h ∙ w.rest q j a h (omega arith);
          }

module _ {p C : ℕ} {S : ℕ → ℕ → ℕ} {N : ℕ → ℕ} {k r begin : ℕ} {store : List ℕ} (w : Cleared p C S N k r begin store) (h : k ≤ r) where
  pub cleared-start : begin ≡ row_start C k
  cleared-start = let e : r ≡ k = omega (arith, w.within) in w.begins ∙ ap (row_start C) e

  pub cleared-all : store ≡ flat C (cleared p S N k)
  unfolding cleared
  cleared-all =
      sym (flat-cells C store w.places)
      ∙ flat-ext C (cells C store) (cleared p S N k)
      (λ q j l low b. elim (dec_lt q k) [
        | yes a ↦ w.done q j l b (omega arith) ∙ rw (lt-ltb q k a)
        | no a ↦ let a' : k ≤ q = omega arith in w.rest q j l b (omega (arith, w.within)) ∙ rw (le-ltb q k a')
      ])

-- row k, of the store as the clearing leaves it
pub row-cleared : {C k begin : ℕ} {store : List ℕ} (S : ℕ → ℕ → ℕ) → k < C → begin ≡ row_start C k → store ≡ flat C S → RowAt C store k begin
row-cleared S l b e = record { size = ap length e ∙ flat-length _ _; inside = l; begins = b }

-- the pivot, as the residual's multiple leaves it
module _ {p C : ℕ} {res : List ℕ} (g : ℕ) {pivot : List ℕ} (line : Line p C res) (pos : 0 < p) (h : pivot ≡ multiple p g res) where
  pivot-place : (j : ℕ) → j ≤ C → at pivot j ≡ (g * at res j) % p
  pivot-place j l =
      ap (λ (xs : List ℕ). at xs j) h
      ∙ tab-at (length res) (λ i. (g * at res i) % p) 0 j (omega (arith, line.places))

  pub pivot-line : Line p C pivot
  pivot-line =
      record {
        places = ap length h ∙ tab-length (length res) (λ i. (g * at res i) % p) ∙ line.places;
        residues = λ i.
            subst⁻¹ (λ (xs : List ℕ). at xs i < p) h
            (residues-tab p (length res) (λ j. (g * at res j) % p) pos (λ j l. mod-lt (g * at res j) pos) i);
      }

  pub pivot-at : (k : ℕ) → g ≡ inverse p (at res k) → (j : ℕ) → j ≤ C → at pivot j ≡ normal p (at res) k j
  unfolding normal
  pivot-at k scale j l = pivot-place j l ∙ ap (λ (a : ℕ). (a * at res j) % p) scale

  pub pivot-before : (k : ℕ) → k ≤ C → ((j : ℕ) → j < k → at res j ≡ 0) → (j : ℕ) → j < k → at pivot j ≡ 0
  pivot-before k b z j l = pivot-place j (omega arith) ∙ rw (z j l, mul-zero g) (mod-eq_of_lt pos)

module _ (p C : ℕ) (S : ℕ → ℕ → ℕ) (N : ℕ → ℕ) (k : ℕ) (red : Reduced p C S) (column : k < C) (small : (j : ℕ) → N j < p) where
  pub row-inserted : (whole store ys : List ℕ) (begin : ℕ) → begin ≡ row_start C k → C + 1 ≤ length whole
      → ((j : ℕ) → j ≤ C → at (take (C + 1) whole) j ≡ N j)
      → store ≡ flat C (cleared p S (at (take (C + 1) whole)) k) → ys ≡ multiple p 1 (take (C + 1 - k) (drop k whole))
      → tail_pasted C store begin k ys ≡ flat C (inserted p S N k)
  unfolding cleared
  row-inserted whole store ys begin begins long pivots h turn =
      sym (flat-cells C (tail_pasted C store begin k ys) (tail-size at_row (le_refl k) (le_of_lt column) ys size ∙ at_row.size))
      ∙ flat-ext C (cells C (tail_pasted C store begin k ys)) (inserted p S N k)
      (λ q j l low b. elim (ℕ_discrete q k) [
        | yes e ↦ rw e (row j (omega arith) b ∙ sym (inserted-here p S N k k j refl))
        | no d ↦ tail-other at_row (le_refl k) (le_of_lt column) ys size q j l d b ∙ other q j l low b d ∙ sym (inserted-there p S N k q j d)
      ])
    where
      at_row : RowAt C store k begin
      at_row =
          record { size = ap length h ∙ flat-length C (cleared p S (at (take (C + 1) whole)) k); inside = column; begins = begins }

      cut : length (take (C + 1 - k) (drop k whole)) ≡ C + 1 - k
      cut = part_length whole k (C + 1 - k) (omega arith)

      size : length ys ≡ C + 1 - k
      size = ap length turn ∙ tab-length (length (take (C + 1 - k) (drop k whole))) (λ j. (1 * at (take (C + 1 - k) (drop k whole)) j) % p) ∙ cut

      whole-at : (j : ℕ) → j ≤ C → at whole j ≡ N j
      whole-at j b = sym (get_or-take (C + 1) whole j 0 (omega arith)) ∙ pivots j b

      place : (i : ℕ) → i < C + 1 - k → at ys i ≡ N (k + i)
      place i b =
          ap (λ (xs : List ℕ). at xs i) turn
          ∙ tab-at (length (take (C + 1 - k) (drop k whole))) (λ j. (1 * at (take (C + 1 - k) (drop k whole)) j) % p) 0 i (rw cut b)
          ∙ ap (λ (n : ℕ). n % p) (one-mul (at (take (C + 1 - k) (drop k whole)) i) ∙ part_at whole k (C + 1 - k) i b ∙ whole-at (k + i) (omega arith))
          ∙ mod-eq_of_lt (small (k + i))

      row : (j : ℕ) → k ≤ j → j ≤ C → cells C (tail_pasted C store begin k ys) k j ≡ N j
      row j low b =
          let e : k + (j - k) ≡ j = omega arith in
          tail-row at_row (le_refl k) (le_of_lt column) ys size j low b ∙ place (j - k) (omega arith) ∙ ap N e

      other : (q j : ℕ) → q < C → q ≤ j → j ≤ C → q ≢ k → cells C store q j ≡ (S q j + (p - S q k) * N j) % p
      other q j l low b d =
          ap (λ (xs : List ℕ). cells C xs q j) h
          ∙ cells-flat C (cleared p S (at (take (C + 1) whole)) k) q j l b (λ left. absurd (omega arith))
          ∙ elim (dec_lt q k) [
            | yes a ↦ rw (lt-ltb q k a) (ap (λ (n : ℕ). (S q j + (p - S q k) * n) % p) (pivots j b))
            | no a ↦
                let a' : k < q = omega arith in
                rw (le-ltb q k (le_of_lt a'), left-zero p C S red q k l a', sub-zero p) (sym (nothing p (S q j) (N j) (red.residues q j l b)))
          ]
