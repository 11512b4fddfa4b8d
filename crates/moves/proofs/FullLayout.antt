-- The layout before C-16, and that a store moved from one layout to the other and back is the same.
--     cells-full, full-cells, full-ext      its bytes and their reading are each other's inverse, and depend on the places alone
--     full-length, full-end           the bytes are C rows of C + 1, and a row ends within them
--     halved-widened, widened-halved  moved and back; an old store must be in reduced form, for what lies left of a diagonal is not kept
--     stands-for                      a new store is in reduced form exactly when the old one that it stands for is
--     zeros-halved                    the empty store, moved, is the empty store
-- Assumes nothing.
use mathlib.Core.Path.{◌≡◌, sym, ap, ap₂, ◌∙◌}
use mathlib.Core.Logic.{◌↔◌}
use mathlib.Core.List.{List}
use Prim.Native.Nat.{ℕ, ◌+◌, ◌*◌, ◌/◌, ◌%◌, ◌≤◌, ◌<◌}
use native.Mathlib.Nat.{mod-lt, mul-le-mul_right, div-add-mod', div-lt_iff_lt-mul}
use native.Mathlib.Omega.{arith}
use lib.Arith.{digits_lt, digits_div, digits_mod}
use lib.ListN.{length, replicate, length-replicate}
use Rattle.lists.specs.Places.{at}
use Rattle.lists.proofs.Tabs.{tab-length, tab-at, tab-ext, is-tab}
use Rattle.lists.proofs.Parts.{zeros-at}
use Rattle.plan.specs.Parts.{store_size, full_size}
use Rattle.store.specs.Elimination.{Reduced, row_start, cells}
use Rattle.moves.specs.Moves.{full_cells, full_flat, halved, widened}
use Rattle.store.proofs.Bytes.{cells_right, flat-cells, flat-ext}
use Rattle.store.proofs.ReducedForm.{reduced-ext, flat-reads}

pub full-length : (C : ℕ) (S : ℕ → ℕ → ℕ) → length (full_flat C S) ≡ full_size C
unfolding full_flat
full-length C S = tab-length (full_size C) (λ k. S (k / (C + 1)) (k % (C + 1)))

pub full-end : (C q : ℕ) → q < C → q * (C + 1) + (C + 1) ≤ full_size C
unfolding full_size
full-end C q l = let l' : q + 1 ≤ C = omega arith in omega (arith, mul-le-mul_right (C + 1) l')

pub cells-full : (C : ℕ) (S : ℕ → ℕ → ℕ) (q j : ℕ) → q < C → j ≤ C → full_cells C (full_flat C S) q j ≡ S q j
unfolding full_flat full_size
cells-full C S q j l k =
    let k' : j < C + 1 = omega arith in
    tab-at (C * (C + 1)) (λ k. S (k / (C + 1)) (k % (C + 1))) 0 (q * (C + 1) + j) (digits_lt l k')
    ∙ ap₂ S (digits_div q k') (digits_mod q k')

pub full-cells : (C : ℕ) (full : List ℕ) → length full ≡ full_size C → full_flat C (full_cells C full) ≡ full
unfolding full_flat
full-cells C full e =
    sym (is-tab full (full_size C) (λ k. full_cells C full (k / (C + 1)) (k % (C + 1))) 0 e (λ k l. ap (at full) (sym (div-add-mod' k (C + 1)))))

pub full-ext : (C : ℕ) (S S' : ℕ → ℕ → ℕ) → ((q j : ℕ) → q < C → j ≤ C → S q j ≡ S' q j) → full_flat C S ≡ full_flat C S'
unfolding full_flat full_size
full-ext C S S' h =
    let pos : 0 < C + 1 = omega arith in
    tab-ext (C * (C + 1)) (λ k. S (k / (C + 1)) (k % (C + 1))) (λ k. S' (k / (C + 1)) (k % (C + 1))) 0
    (λ k l. h (k / (C + 1)) (k % (C + 1)) ((div-lt_iff_lt-mul pos).1 l) (omega (arith, mod-lt k pos)))

pub halved-widened : (C : ℕ) (half : List ℕ) → length half ≡ store_size C → halved C (widened C half) ≡ half
halved-widened C half e =
    flat-ext C (full_cells C (widened C half)) (cells C half) (λ q j l low k. cells-full C (cells C half) q j l k) ∙ flat-cells C half e

pub widened-halved : (p C : ℕ) (full : List ℕ) → length full ≡ full_size C → Reduced p C (full_cells C full) → widened C (halved C full) ≡ full
widened-halved p C full e red =
    full-ext C (cells C (halved C full)) (full_cells C full) (flat-reads p C (full_cells C full) red) ∙ full-cells C full e

pub stands-for : (p C : ℕ) (half : List ℕ) → Reduced p C (cells C half) ↔ Reduced p C (full_cells C (widened C half))
stands-for p C half = (
  reduced-ext p C (cells C half) (full_cells C (widened C half)) (λ q j l k. sym (cells-full C (cells C half) q j l k)),
  reduced-ext p C (full_cells C (widened C half)) (cells C half) (cells-full C (cells C half)),
)

pub zeros-halved : (C : ℕ) → halved C (replicate (full_size C) 0) ≡ replicate (store_size C) 0
zeros-halved C =
    let zeros : List ℕ = replicate (store_size C) 0 in
    flat-ext C (full_cells C (replicate (full_size C) 0)) (cells C zeros)
    (λ q j l low k. zeros-at (full_size C) (q * (C + 1) + j) ∙ sym (cells_right C zeros q j low ∙ zeros-at (store_size C) (row_start C q + j)))
    ∙ flat-cells C zeros (length-replicate (store_size C) 0)
