-- What the code of `recovery` reads: rows of coefficients, each of them residues or not.
--     part-back                     a part of a list that was lent
--     row_below, row-refuted        a row of residues, and one with a number that is none
--     row_of P steps b              row b of the coefficients; `row_read`: from the step where the code reads it
--     from_end, step-inner, step-last, row_room     where that step stands
--     Rows P steps e b found        the first b rows stand in the list e, which is now found, and are residues
--     rows_none, rows_next, rows-refuted, rows_all      before the first row, one row more, one with a number that is no residue, after the last
-- Assumes nothing.
use mathlib.Core.Path.{◌≡◌, refl, sym, ap, ap₂, ◌∙◌}
use mathlib.Core.Bool.{Bool, true, false, ◌&&◌}
use mathlib.Core.List.{List, ◌++◌}
use Prim.Native.Nat.{ℕ, zero, suc, ◌+◌, ◌-◌, ◌*◌, ◌≤◌, ◌<◌}
use native.Mathlib.Nat.{mul-le-mul_right, add-sub_cancel_left}
use native.Mathlib.Decide.{dec_lt, ℕ_discrete}
use native.Mathlib.Omega.{arith}
use lib.Dec.{ltb}
use lib.ListN.{length, take, drop}
use borrow.Author.Tests.{lt-ltb, le-ltb}
use Rattle.lists.specs.Places.{tab, joined, placed, every, at}
use Rattle.lists.proofs.Tests.{every_of, and-false}
use Rattle.lists.proofs.Tabs.{tab-length, tab-at, tab-ext}
use Rattle.lists.proofs.Joins.{joined-next}
use Rattle.lists.proofs.Placing.{placed-length, placed-nothing, placed-placed, placed-whole, lent_placed}
use Rattle.lists.proofs.Parts.{cut-length}
use Rattle.field.specs.Rows.{all_below}
use Rattle.field.proofs.Ranges.{below_none, below-append}
use Rattle.plan.specs.declared.numbers.Plan.{Plan}
use Rattle.plan.specs.Numbers.{variables, columns}
use Rattle.program.specs.Steps.{by_of}
use Rattle.program.specs.Layout.{step_count}
use Rattle.readback.specs.Recovery.{first_product, coefficient_step, recovered}
use Rattle.readback.proofs.Places.{rows-length}

module _ (p n : ℕ) (f : ℕ → ℕ) where
  pub row_below : ((j : ℕ) → j < n → f j < p) → all_below p (tab n f) ≡ true
  row_below h =
      every_of (λ j. ltb (at (tab n f) j) p) (length (tab n f))
      (λ j l. let l' : j < n = rw (tab-length n f) at l in lt-ltb (at (tab n f) j) p (rw (tab-at n f 0 j l') (h j l')))

  pub row-refuted : (j : ℕ) → j < n → p ≤ f j → all_below p (tab n f) ≡ false
  row-refuted j l h = below_none p (tab n f) j (rw (tab-length n f) l) (rw (tab-at n f 0 j l) h)

-- a part that was lent, and came back in its length
pub part-back : (found row : List ℕ) (from l : ℕ) → from + l ≤ length found → length row ≡ length (take (from + l - from) (drop from found))
    → (take from found ++ (row ++ drop (from + l - from) (drop from found)) ≡ placed found from row) × (length (placed found from row) ≡ length found)
part-back found row from l room e =
    let size = e ∙ cut-length found from l room in
    (lent_placed found from (from + l - from) row (size ∙ sym (add-sub_cancel_left from l)), placed-length found from row (omega (arith, size)))

abbrev pub row_of : Plan → List ℕ → ℕ → List ℕ
row_of P steps b = tab (variables P) (λ j. by_of steps (coefficient_step P b j))

-- from the step where the code reads it
pub row_read : (P : Plan) (steps : List ℕ) (begin n b : ℕ) → n ≡ variables P → begin ≡ coefficient_step P b 0 → tab n (λ j. by_of steps (begin + j)) ≡ row_of P steps b
unfolding coefficient_step
row_read P steps begin n b size e =
    ap (λ (k : ℕ). tab k (λ j. by_of steps (begin + j))) size
    ∙ tab-ext (variables P) (λ j. by_of steps (begin + j)) (λ j. by_of steps (coefficient_step P b j)) 0 (λ j _. ap (by_of steps) (omega (arith, e)))

-- where row b stands, counted from the end: behind it are the products from b on and the last sum
parted : (x b t k : ℕ) → x + b ≡ t → x * k + b * k ≡ t * k
parted x b t k e = rw (sym e) (omega arith)

pub from_end : (P : Plan) (b : ℕ) → b ≤ P.t → first_product P + b * (2 * variables P + 12) + (P.t - b) * (2 * variables P + 12) + variables P ≡ step_count P
unfolding step_count
from_end P b h =
    let whole : P.t - b + b ≡ P.t = omega (arith, h) in
    omega (arith, parted (P.t - b) b P.t (2 * variables P + 12) whole)

pub step-inner : (P : Plan) (b : ℕ) → b < P.t → coefficient_step P b 0 ≡ first_product P + b * (2 * variables P + 12) + 1
unfolding coefficient_step
step-inner P b h = rw (lt-ltb b P.t h) (omega arith)

pub step-last : (P : Plan) (b : ℕ) → P.t ≤ b → coefficient_step P b 0 ≡ first_product P + b * (2 * variables P + 12)
unfolding coefficient_step
step-last P b h = rw (le-ltb b P.t h) (omega arith)

-- a row's steps stand in the program
pub row_room : (P : Plan) (b : ℕ) → b ≤ P.t → coefficient_step P b 0 + variables P ≤ step_count P
row_room P b h = elim (dec_lt b P.t) [
  | yes l ↦
      let one : 1 * (2 * variables P + 12) ≤ (P.t - b) * (2 * variables P + 12) = mul-le-mul_right (2 * variables P + 12) (omega (arith, l)) in
      omega (arith, step-inner P b l, from_end P b h, one)
  | no l ↦ omega (arith, step-last P b (omega arith), from_end P b h)
]

pub record Rows (P : Plan) (steps e : List ℕ) (b : ℕ) (found : List ℕ) : Type 0 where
  pub entry : length e ≡ columns P
  pub size : length found ≡ columns P
  pub list : found ≡ placed e 0 (joined (row_of P steps) b)
  pub residues : all_below P.p (joined (row_of P steps) b) ≡ true

module _ (P : Plan) (steps : List ℕ) where
  pub rows_none : (e : List ℕ) → length e ≡ columns P → Rows P steps e 0 e
  unfolding joined every
  rows_none e h = record { entry = h; size = h; list = sym (placed-nothing e 0); residues = refl }

  rows-size : (b : ℕ) → length (joined (row_of P steps) b) ≡ b * variables P
  rows-size b = rows-length (variables P) (row_of P steps) (λ c. tab-length (variables P) (λ j. by_of steps (coefficient_step P c j))) b

  module _ {e found : List ℕ} {b : ℕ} (r : Rows P steps e b found) where
    next-below : all_below P.p (joined (row_of P steps) (b + 1)) ≡ all_below P.p (row_of P steps b)
    next-below =
        ap (all_below P.p) (joined-next (row_of P steps) b)
        ∙ below-append P.p (joined (row_of P steps) b) (row_of P steps b)
        ∙ ap (λ (t : Bool). t && all_below P.p (row_of P steps b)) r.residues

    -- row b written behind the rows before it
    next-list : (found' : List ℕ) → b ≤ P.t → found' ≡ placed found (b * variables P) (row_of P steps b) → found' ≡ placed e 0 (joined (row_of P steps) (b + 1))
    next-list found' l h =
        let place : b * variables P ≡ 0 + length (joined (row_of P steps) b) = omega (arith, rows-size b) in
        let fits : 0 + length (joined (row_of P steps) b) ≤ length e = omega (arith, rows-size b, r.entry, mul-le-mul_right (variables P) l) in
        h
        ∙ ap₂ (λ (o : List ℕ) (k : ℕ). placed o k (row_of P steps b)) r.list place
        ∙ placed-placed e 0 (joined (row_of P steps) b) (row_of P steps b) fits
        ∙ ap (placed e 0) (sym (joined-next (row_of P steps) b))

    pub rows_next : (found' : List ℕ) → b ≤ P.t → length found' ≡ columns P → found' ≡ placed found (b * variables P) (row_of P steps b)
        → all_below P.p (row_of P steps b) ≡ true → Rows P steps e (b + 1) found'
    rows_next found' l s h below = record { entry = r.entry; size = s; list = next-list found' l h; residues = next-below ∙ below }

  pub rows_all : {e found : List ℕ} {b : ℕ} → Rows P steps e b found → b ≡ P.t + 1 → (all_below P.p (recovered P steps) ≡ true) × (found ≡ recovered P steps)
  unfolding recovered
  rows_all {e} {found} {b} r h =
      let all = ap (joined (row_of P steps)) h in (
        sym (ap (all_below P.p) all) ∙ r.residues,
        r.list ∙ placed-whole e (joined (row_of P steps) b) (omega (arith, ap (λ (k : ℕ). k * variables P) h, rows-size b, r.entry)) ∙ all,
      )

  -- a row with a number that is no residue
  refuted-in : (b n : ℕ) → b < n → all_below P.p (row_of P steps b) ≡ false → all_below P.p (joined (row_of P steps) n) ≡ false
  unfolding joined
  refuted-in b zero l h = absurd (omega arith)
  refuted-in b (suc n) l h = below-append P.p (joined (row_of P steps) n) (row_of P steps n) ∙ elim (ℕ_discrete b n) [
    | yes e ↦ rw (sym (ap (row_of P steps) e), h) (and-false (all_below P.p (joined (row_of P steps) n)))
    | no d ↦ ap (λ (t : Bool). t && all_below P.p (row_of P steps n)) (refuted-in b n (omega arith) h)
  ]

  pub rows-refuted : (b : ℕ) → b ≤ P.t → all_below P.p (row_of P steps b) ≡ false → all_below P.p (recovered P steps) ≡ false
  unfolding recovered
  rows-refuted b l h = refuted-in b (P.t + 1) (omega arith) h
