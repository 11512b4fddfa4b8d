-- A row by its blocks: place b * L + j is variable j of block b, in the form in which the code's passes leave it.
--     product-place, last-place       a row's place in a product's block, and in the last block
--     weighted-of-part                a block's weighted sum from its part of d
--     product-block, last_block       a whole block as a multiple of the variables
--     row-length, row-residues        a row has C places, each below p
--     block_room, block-turn          block b fits in the row and in d; the turn of a loop that writes it there
--     last_turn                       the row with its last block written, which is the whole row
-- Assumes nothing.
use mathlib.Core.Path.{◌≡◌, sym, ap, ap₂, subst, ◌∙◌}
use mathlib.Core.Bool.{Bool, true, false, cond}
use mathlib.Core.List.{List, ◌++◌}
use Prim.Native.Nat.{ℕ, ◌+◌, ◌-◌, ◌*◌, ◌/◌, ◌%◌, ◌≤◌, ◌<◌}
use native.Mathlib.Nat.{one-mul, mul_comm, mod-lt, mod-eq_of_lt, le_refl, le_of_eq, add-sub_cancel_left, mul-le-mul_right}
use native.Mathlib.Omega.{arith}
use lib.Dec.{ltb}
use lib.Arith.{digits_div, digits_mod}
use lib.ListN.{length, take, drop}
use borrow.Author.Tests.{lt-ltb, le-ltb}
use Rattle.lists.specs.Places.{tab, at}
use Rattle.lists.proofs.Sums.{sum-ext}
use Rattle.lists.proofs.Tabs.{tab-length, tab-ext}
use Rattle.lists.proofs.Parts.{part_at, cut-length}
use Rattle.lists.proofs.Overwrite.{Written, written-part}
use Rattle.field.specs.Residues.{Residues}
use Rattle.field.specs.Rows.{dot, multiple}
use Rattle.field.proofs.Modular.{mul-mod-l}
use Rattle.field.proofs.Ranges.{residues-tab}
use Rattle.plan.specs.Numbers.{variables, columns, Within}
use Rattle.plan.specs.Parts.{Given, Lent}
use Rattle.plan.specs.Rows.{values, weighted, row_place, row}
use Rattle.plan.specs.declared.numbers.Plan.{Plan}
use Rattle.plan.proofs.Bounds.{prime-low}
use Rattle.plan.proofs.Chains.{values-residues}

module _ (P : Plan) (d xs : List ℕ) where
  pub product-place : (b j : ℕ) → b < P.t → j < variables P → row_place P d xs (b * variables P + j) ≡ at xs j * weighted P d xs b % P.p
  unfolding row_place
  product-place b j hb hj = rw (digits_div b hj, digits_mod b hj, lt-ltb b P.t hb)

  pub last-place : (j : ℕ) → j < variables P → row_place P d xs (P.t * variables P + j) ≡ at xs j
  unfolding row_place
  last-place j hj = rw (digits_div P.t hj, digits_mod P.t hj, le-ltb P.t P.t (le_refl P.t))

  pub weighted-of-part : (b : ℕ) → dot (take (variables P) (drop (b * variables P) d)) xs (variables P) ≡ weighted P d xs b
  unfolding weighted
  weighted-of-part b =
      sum-ext (λ j. at (take (variables P) (drop (b * variables P) d)) j * at xs j) (λ k. at d (b * variables P + k) * at xs k) (variables P)
      (λ j l. ap (λ (y : ℕ). y * at xs j) (part_at d (b * variables P) (variables P) j l))

  module _ (same : length xs ≡ variables P) where
    pub product-block : (b : ℕ) → b < P.t → multiple P.p (weighted P d xs b % P.p) xs ≡ tab (variables P) (λ j. row_place P d xs (b * variables P + j))
    product-block b hb =
        rw same
        (tab-ext (variables P) (λ j. (weighted P d xs b % P.p * at xs j) % P.p) (λ j. row_place P d xs (b * variables P + j)) 0
        (λ j hj. mul-mod-l (weighted P d xs b) (at xs j) P.p ∙ ap (λ (z : ℕ). z % P.p) (mul_comm (weighted P d xs b) (at xs j)) ∙ sym (product-place b j hb hj)))

    pub last_block : Residues P.p xs → multiple P.p 1 xs ≡ tab (variables P) (λ j. row_place P d xs (P.t * variables P + j))
    last_block residues =
        rw same
        (tab-ext (variables P) (λ j. (1 * at xs j) % P.p) (λ j. row_place P d xs (P.t * variables P + j)) 0
        (λ j hj. ap (λ (z : ℕ). z % P.p) (one-mul (at xs j)) ∙ mod-eq_of_lt (residues j) ∙ sym (last-place j hj)))

pub row-length : (G : Given) (i : ℕ) → length (row G i) ≡ columns G.numbers
unfolding row
row-length G i = tab-length (columns G.numbers) (row_place G.numbers G.products (values G i))

pub row-residues : (G : Given) (i : ℕ) → Within G.numbers → Lent G → Residues G.numbers.p (row G i)
unfolding row row_place
row-residues G i within lent =
    residues-tab P.p (columns P) (row_place P G.products xs) positive (λ c l. place c)
  where
    P : Plan
    P = G.numbers

    xs : List ℕ
    xs = values G i

    positive : 0 < P.p
    positive = omega (arith, prime-low within)

    either : (b : Bool) (x y : ℕ) → x < P.p → y < P.p → cond b x y < P.p
    either true x y hx hy = hx
    either false x y hx hy = hy

    place : (c : ℕ) → row_place P G.products xs c < P.p
    place c =
        either (ltb (c / variables P) P.t) (at xs (c % variables P) * weighted P G.products xs (c / variables P) % P.p) (at xs (c % variables P))
        (mod-lt _ positive) (values-residues G i within lent (c % variables P))

columns-split : (P : Plan) → columns P ≡ P.t * variables P + variables P
columns-split P = omega arith

pub block_room : (P : Plan) (begin l b : ℕ) → begin ≡ b * variables P → l ≡ variables P → b < P.t → begin + l ≤ P.t * variables P
block_room P begin l b hbegin hl hb = omega (arith, mul-le-mul_right (variables P) hb)

pub row_room : (P : Plan) (begin l : ℕ) → begin + l ≤ P.t * variables P → begin + l ≤ columns P
row_room P begin l h = omega (arith, columns-split P)

pub last-room : (P : Plan) (begin l : ℕ) → begin ≡ P.t * variables P → l ≡ variables P → begin + l ≡ columns P
last-room P begin l hbegin hl = omega (arith, columns-split P)

pub block-turn : (P : Plan) (d xs : List ℕ) {e row ys : List ℕ} {begin : ℕ} (l b g : ℕ)
    → Written (columns P) (row_place P d xs) e begin row
    → begin ≡ b * variables P → l ≡ variables P → b < P.t → length xs ≡ variables P → length d ≡ P.t * variables P
    → g ≡ dot (take (begin + l - begin) (drop begin d)) xs (length (take (begin + l - begin) (drop begin d))) % P.p
    → ys ≡ multiple P.p g xs
    → Written (columns P) (row_place P d xs) e (begin + l) (take begin row ++ (ys ++ drop (begin + l - begin) (drop begin row)))
block-turn P d xs {e} {row} {ys} {begin} l b g w hbegin hl hb hx hd hg hy =
    written-part l ys w (row_room P begin l room)
    (hy ∙ ap (λ (z : ℕ). multiple P.p z xs) (hg ∙ ap (λ (z : ℕ). z % P.p) total)
    ∙ product-block P d xs hx b hb
    ∙ ap₂ (λ (k a : ℕ). tab k (λ j. row_place P d xs (a + j))) (sym hl) (sym hbegin))
  where
    room : begin + l ≤ P.t * variables P
    room = block_room P begin l b hbegin hl hb

    total : dot (take (begin + l - begin) (drop begin d)) xs (length (take (begin + l - begin) (drop begin d))) ≡ weighted P d xs b
    total =
        rw (cut-length d begin l (rw hd room), add-sub_cancel_left, hl, hbegin) (weighted-of-part P d xs b)

pub last_turn : (P : Plan) (d xs : List ℕ) {e row ys : List ℕ} {begin : ℕ} (l : ℕ)
    → Written (columns P) (row_place P d xs) e begin row
    → begin ≡ P.t * variables P → l ≡ variables P → length xs ≡ variables P → Residues P.p xs
    → ys ≡ multiple P.p 1 xs
    → Written (columns P) (row_place P d xs) e (columns P) (take begin row ++ (ys ++ drop (begin + l - begin) (drop begin row)))
last_turn P d xs {e} {row} {ys} {begin} l w hbegin hl hx residues hy =
    subst (λ (k : ℕ). Written (columns P) (row_place P d xs) e k (take begin row ++ (ys ++ drop (begin + l - begin) (drop begin row))))
    (last-room P begin l hbegin hl)
    (written-part l ys w (le_of_eq (last-room P begin l hbegin hl))
    (hy ∙ last_block P d xs hx residues
    ∙ ap₂ (λ (k a : ℕ). tab k (λ j. row_place P d xs (a + j))) (sym hl) (sym hbegin)))
