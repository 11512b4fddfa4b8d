-- A store's bytes and its reading by row and column are each other's inverse, where the reading is 0 left of the diagonal.
--     cells_left, cells_right       the reading left of the diagonal, and from it on
--     flat-length     the bytes are as many as the store's size
--     flat-at         where a place from the diagonal on is written
--     cells-flat      reading what is written from S gives S
--     flat-cells      writing what is read gives the bytes
--     flat-ext        the bytes depend on the places from the diagonals on alone
-- With `RowStarts` this is all that knows how rows are laid out. Assumes nothing.
use mathlib.Core.Path.{◌≡◌, sym, ap, ap₂, ◌∙◌}
use mathlib.Core.List.{List, ◌++◌}
use Prim.Native.Nat.{ℕ, zero, suc, ◌+◌, ◌-◌, ◌≤◌, ◌<◌}
use native.Mathlib.Nat.{le_refl}
use native.Mathlib.Decide.{dec_lt}
use native.Mathlib.Numerals.{add-one}
use native.Mathlib.Omega.{arith}
use lib.ListN.{length, take, drop, length-append}
use lib.Seq.{take-add, take_all}
use borrow.Author.Tests.{lt-ltb, le-ltb}
use Rattle.lists.specs.Places.{tab, joined, at}
use Rattle.lists.proofs.Tabs.{tab-length, tab-at, tab-ext, is-tab}
use Rattle.lists.proofs.Parts.{part_length, part_at}
use Rattle.lists.proofs.Joins.{joined_at, joined-ext}
use Rattle.plan.specs.Parts.{store_size}
use Rattle.store.specs.Elimination.{row_start, cells, flat}
use Rattle.store.proofs.RowStarts.{start-zero, start-next, start-last, row-end}

pub cells_left : (C : ℕ) (store : List ℕ) (q j : ℕ) → j < q → cells C store q j ≡ 0
unfolding cells
cells_left C store q j l = rw (lt-ltb j q l)

pub cells_right : (C : ℕ) (store : List ℕ) (q j : ℕ) → q ≤ j → cells C store q j ≡ at store (row_start C q + j)
unfolding cells
cells_right C store q j l = rw (le-ltb j q l)

-- a row's bytes
abbrev kept : ℕ → (ℕ → ℕ → ℕ) → ℕ → List ℕ
kept C S q = tab (C + 1 - q) (λ j. S q (q + j))

kept-length : (C : ℕ) (S : ℕ → ℕ → ℕ) (q : ℕ) → length (kept C S q) ≡ C + 1 - q
kept-length C S q = tab-length (C + 1 - q) (λ j. S q (q + j))

front_length : (C : ℕ) (S : ℕ → ℕ → ℕ) (n : ℕ) → n ≤ C → length (joined (kept C S) n) ≡ row_start C n + n
unfolding joined
front_length C S zero l = omega (arith, start-zero C)
front_length C S (suc n) l =
    rw (length-append, kept-length C S n) (omega (arith, front_length C S n (omega arith), start-next C n, ap (row_start C) (add-one n)))

pub flat-length : (C : ℕ) (S : ℕ → ℕ → ℕ) → length (flat C S) ≡ store_size C
unfolding flat
flat-length C S = front_length C S C (le_refl C) ∙ start-last C

pub flat-at : (C : ℕ) (S : ℕ → ℕ → ℕ) (q j : ℕ) → q < C → q ≤ j → j ≤ C → at (flat C S) (row_start C q + j) ≡ S q j
unfolding flat
flat-at C S q j l low high =
    let i : j - q < C + 1 - q = omega arith in
    let place : row_start C q + q + (j - q) ≡ row_start C q + j = omega arith in
    let column : q + (j - q) ≡ j = omega arith in
    ap (at (joined (kept C S) C)) (sym place)
    ∙ joined_at (kept C S) C q (j - q) (row_start C q + q) l (rw (kept-length C S q) i) (front_length C S q (omega arith))
    ∙ tab-at (C + 1 - q) (λ j. S q (q + j)) 0 (j - q) i
    ∙ ap (S q) column

pub cells-flat : (C : ℕ) (S : ℕ → ℕ → ℕ) (q j : ℕ) → q < C → j ≤ C → (j < q → S q j ≡ 0) → cells C (flat C S) q j ≡ S q j
cells-flat C S q j l k z = elim (dec_lt j q) [
  | yes b ↦ cells_left C (flat C S) q j b ∙ sym (z b)
  | no b ↦
      let b' : q ≤ j = omega arith in
      cells_right C (flat C S) q j b' ∙ flat-at C S q j l b' k
]

front-cells : (C : ℕ) (store : List ℕ) → length store ≡ store_size C → (n : ℕ) → n ≤ C → joined (kept C (cells C store)) n ≡ take (row_start C n + n) store
unfolding joined
front-cells C store e zero l = rw start-zero
front-cells C store e (suc n) l =
    let here : n < C = omega arith in
    let next : row_start C n + n + (C + 1 - n) ≡ row_start C (suc n) + suc n = omega (arith, start-next C n, ap (row_start C) (add-one n)) in
    ap₂ ◌++◌ (front-cells C store e n (omega arith))
    (sym
    (is-tab (take (C + 1 - n) (drop (row_start C n + n) store)) (C + 1 - n) (λ j. cells C store n (n + j)) 0
    (part_length store (row_start C n + n) (C + 1 - n) (omega (arith, row-end C n here)))
    (λ j h.
    let same : row_start C n + n + j ≡ row_start C n + (n + j) = omega arith in
    part_at store (row_start C n + n) (C + 1 - n) j h ∙ ap (at store) same ∙ sym (cells_right C store n (n + j) (omega arith)))))
    ∙ sym (take-add (row_start C n + n) (C + 1 - n) store)
    ∙ ap (λ (m : ℕ). take m store) next

pub flat-cells : (C : ℕ) (store : List ℕ) → length store ≡ store_size C → flat C (cells C store) ≡ store
unfolding flat
flat-cells C store e =
    front-cells C store e C (le_refl C) ∙ take_all (row_start C C + C) store (omega (arith, start-last C))

pub flat-ext : (C : ℕ) (S S' : ℕ → ℕ → ℕ) → ((q j : ℕ) → q < C → q ≤ j → j ≤ C → S q j ≡ S' q j) → flat C S ≡ flat C S'
unfolding flat
flat-ext C S S' h =
    joined-ext (kept C S) (kept C S') C
    (λ q l. tab-ext (C + 1 - q) (λ j. S q (q + j)) (λ j. S' q (q + j)) 0 (λ j k. h q (q + j) l (omega arith) (omega arith)))
