-- A row looked at column by column from the left, as the search of `settling` does it.
--     column-sum           the residual's place q with nothing reduced yet, by the first n rows alone
--     sum-none, sum_more   no row, a row more
--     row-room             a row ends within the store
--     sum-next, sum_room   a row more, as the code reads it: the sum after it, and that it fits in 32 bits
--     column-residual      by the rows above row q it is the residual's place q, for a column without a pivot and for the right-hand side
--     lead-open, open-lead                 the first column at which the residual is not 0 is the first that has a value and no pivot, clearing from the left
--     pivots-cleared       columns with a pivot are zero in the residual, so that a search may pass them
-- Assumes nothing.
use mathlib.Core.Path.{◌≡◌, sym, ap, ap₂, ◌∙◌}
use mathlib.Core.Logic.{⊎_elim, ◌≢◌}
use mathlib.Core.List.{List}
use Prim.Native.Nat.{ℕ, ◌+◌, ◌-◌, ◌*◌, ◌%◌, ◌≤◌, ◌<◌}
use native.Mathlib.Nat.{add-zero, mul-zero, le_of_lt, mul-le-mul, mul-le-mul_right}
use native.Mathlib.Decide.{dec_lt, ℕ_discrete}
use native.Mathlib.Omega.{arith}
use lib.ListN.{length}
use Rattle.lists.specs.Places.{sum, at}
use Rattle.lists.proofs.Sums as sums
use Rattle.store.specs.Elimination.{Reduced, residual, lead, row_start, cells}
use Rattle.store.specs.Stages.{Ready, Line, NextFree}
use Rattle.store.specs.Settled.{left_cleared, FirstOpen}
use Rattle.store.proofs.RowStarts.{row-end}
use Rattle.store.proofs.Bytes.{cells_right}
use Rattle.store.proofs.Leads.{lead-before, lead-nonzero, lead_is}
use Rattle.store.proofs.ReducedForm.{left-zero}
use Rattle.store.proofs.Residuals.{residual-pivot}

abbrev pub column-sum : ℕ → (ℕ → ℕ → ℕ) → (ℕ → ℕ) → ℕ → ℕ → ℕ
column-sum p S e q n = e q + sum (λ r. (p - e r) * S r q) n

pub sum-none : (p : ℕ) (S : ℕ → ℕ → ℕ) (e : ℕ → ℕ) (q : ℕ) → e q ≡ column-sum p S e q 0
sum-none p S e q = omega (arith, sums.sum-zero (λ r. (p - e r) * S r q))

sum_more : (p : ℕ) (S : ℕ → ℕ → ℕ) (e : ℕ → ℕ) (q n : ℕ) → column-sum p S e q n + (p - e n) * S n q ≡ column-sum p S e q (n + 1)
sum_more p S e q n = omega (arith, sums.sum-next (λ r. (p - e r) * S r q) n)

module _ (p C : ℕ) (S : ℕ → ℕ → ℕ) (e : ℕ → ℕ) (red : Reduced p C S) where
  pub column-residual : (q : ℕ) → q ≤ C → (q < C → S q q ≡ 0) → column-sum p S e q q % p ≡ residual p C S e q
  unfolding residual
  column-residual q l free =
      let all : q + (C - q) ≡ C = omega arith in
      let cut = ap (sum term) (sym all) ∙ sums.sum-append term q (C - q) in
      ap (λ (x : ℕ). x % p) (omega (arith, cut, sums.sum-none (λ k. term (q + k)) (C - q) below))
    where
      term : ℕ → ℕ
      term r = (p - e r) * S r q

      -- the rows from q on have nothing in column q
      empty : (k : ℕ) → k < C - q → S (q + k) q ≡ 0
      empty k h = elim (ℕ_discrete k 0) [
        | yes z ↦ ap (λ (n : ℕ). S (q + n) q) z ∙ ap (λ (n : ℕ). S n q) (add-zero q) ∙ free (omega arith)
        | no d ↦ left-zero p C S red (q + k) q (omega arith) (omega arith)
      ]

      below : (k : ℕ) → k < C - q → term (q + k) ≡ 0
      below k h = ap (λ (x : ℕ). (p - e (q + k)) * x) (empty k h) ∙ mul-zero (p - e (q + k))

  module _ (small : (j : ℕ) → j < C → e j < p) where
    same : (q : ℕ) → q < C → S q q ≡ 0 → left_cleared p S e q ≡ residual p C S e q
    unfolding left_cleared
    same q l z = column-residual q (le_of_lt l) (λ k. z)

    -- a column with a value has no pivot
    no-pivot : (q : ℕ) → q < C → residual p C S e q ≢ 0 → S q q ≡ 0
    no-pivot q l d = ⊎_elim (λ z. z q (le_of_lt l)) (λ v. absurd (d (residual-pivot p C S e q l (small q l) v))) (red.rows q l)

    pub lead-open : (c : ℕ) → c < C → lead (residual p C S e) C ≡ c → FirstOpen p C S e c
    lead-open c l h =
        record {
          column = l;
          no-pivot = free;
          value = λ z. some (sym (same c l free) ∙ z);
          before = λ j k z. same j (omega arith) z ∙ lead-before (residual p C S e) C j (omega arith);
        }
      where
        some : residual p C S e c ≢ 0
        some = rw h at (lead-nonzero (residual p C S e) C (rw h l))

        free : S c c ≡ 0
        free = no-pivot c l some

    pub open-lead : (c : ℕ) → FirstOpen p C S e c → lead (residual p C S e) C ≡ c
    open-lead c f =
        let l = f.column in
        lead_is (residual p C S e) C c (le_of_lt l)
        (λ j k. elim (ℕ_discrete (residual p C S e j) 0) [
          | yes z ↦ z
          | no d ↦
              let free = no-pivot j (omega arith) d in
              sym (same j (omega arith) free) ∙ f.before j k free
        ])
        (λ _ z. f.value (same c l f.no-pivot ∙ z))

module _ {p C : ℕ} {store e : List ℕ} (ready : Ready p C store) (line : Line p C e) where
  term : (q r : ℕ) → q ≤ C → r < C → (p - at e r) * cells C store r q ≤ 251 * 250
  term q r l h =
      let a : p - at e r ≤ 251 = omega (arith, ready.modulus.1) in
      let b : cells C store r q ≤ 250 = omega (arith, ready.reduced.residues r q h l, ready.modulus.1) in
      mul-le-mul a b

  -- row i, of those above row q, read at a in its column q
  module _ {q i a x : ℕ} (l : q ≤ C) (above : i < q) (place : a ≡ row_start C i + q) (sums-before : x ≡ column-sum p (cells C store) (at e) q i) where
    inside : i < C
    inside = omega arith

    few : i ≤ 1024
    few = omega (arith, ready.limit)

    row-at : at store a ≡ cells C store i q
    row-at = ap (at store) place ∙ sym (cells_right C store i q (le_of_lt above))

    pub row-room : row_start C i + (C + 1) ≤ length store
    row-room = omega (arith, row-end C i inside, ready.places)

    pub sum-next : x + (p - at e i) * at store a ≡ column-sum p (cells C store) (at e) q (i + 1)
    sum-next = ap₂ (λ (x y : ℕ). x + (p - at e i) * y) sums-before row-at ∙ sum_more p (cells C store) (at e) q i

    pub sum_room : x + (p - at e i) * at store a < 4294967296
    sum_room =
        let bound = sums.sum-le (λ r. (p - at e r) * cells C store r q) (251 * 250) i (λ r h. term q r l (omega arith)) in
        omega (arith, sums-before, ap (λ (y : ℕ). (p - at e i) * y) row-at, line.residues q, ready.modulus.1, bound, mul-le-mul_right 62750 few, term q i l inside)

  pub pivots-cleared : (from r : ℕ) → NextFree C (cells C store) from r → ((j : ℕ) → j < from → residual p C (cells C store) (at e) j ≡ 0)
      → (j : ℕ) → j < r → residual p C (cells C store) (at e) j ≡ 0
  pivots-cleared from r next before j l = elim (dec_lt j from) [
    | yes h ↦ before j h
    | no h ↦
        let k : j < C = omega (arith, next.high) in
        ⊎_elim (λ z. absurd (next.passed j (omega arith) l (z j (le_of_lt k))))
        (residual-pivot p C (cells C store) (at e) j k (line.residues j)) (ready.reduced.rows j k)
  ]
