-- Shapes that have no plan for every table: those with more entries than can be New, and those without links, where entry 0 can only be 0.
--     too-many-entries       of the first kind, by the bound on New filings (`RankBound` of `laws`)
--     digit-none, none-linked, none-sum      all digits of entry 0 are 0, so are all variables where there are no links, and then Equation 1 is 0
--     no-links               of the second kind
-- Assumes nothing.
use mathlib.Core.Path.{◌≡◌, sym, ap, ap₂, ◌∙◌}
use mathlib.Core.Bool.{true≢false}
use mathlib.Core.List.{List}
use Prim.Native.Nat.{ℕ, suc, ◌+◌, ◌*◌, ◌%◌, ◌≤◌, ◌<◌}
use native.Mathlib.Nat.{zero-div, zero-mod, zero-mul, mul-zero}
use native.Mathlib.Decide.{dec_lt}
use native.Mathlib.Omega.{arith}
use lib.ListN.{length, drop, get_or-eq_default}
use Rattle.lists.specs.Places.{sum, at}
use Rattle.lists.proofs.Sums.{sum-none}
use Rattle.lists.proofs.Tabs.{tab-length, tab-at}
use Rattle.field.proofs.Modular.{cong-residue}
use Rattle.plan.specs.declared.numbers.Plan.{Plan}
use Rattle.plan.specs.Numbers.{variables, product}
use Rattle.plan.specs.Parts.{Given}
use Rattle.plan.specs.Rows.{digit, digits, chain, values}
use Rattle.plan.specs.Equation.{equation1}
use Rattle.plan.proofs.Radix.{radices-positive, drop-positive}
use Rattle.plan.proofs.Reproduction.{row-times}
use Rattle.store.proofs.Filing.{above-one, positive}
use Rattle.laws.specs.Rank.{most_new}
use Rattle.general.proofs.Working.{too_many}
use Rattle.demands.specs.Demand3.{Accepted}
use Rattle.demands.specs.General.{SuitsAll}
use Rattle.demands.proofs.Turns.{within, lent}
use Rattle.demands.proofs.General.{all_new}

digit-none : (R : List ℕ) (j : ℕ) → digit R 0 j ≡ 0
unfolding digit
digit-none R j = ap (λ (n : ℕ). n % at R j) (zero-div (product (drop (suc j) R))) ∙ zero-mod (at R j)

none-linked : (G : Given) → G.numbers.m ≡ 0 → (j : ℕ) → at (values G 0) j ≡ 0
unfolding values chain
none-linked G none j = rw none (elim (dec_lt j G.numbers.n) [
  | yes l ↦ tab-at G.numbers.n (digit G.radices 0) 0 j l ∙ digit-none G.radices j
  | no l ↦
      let out : length (digits G 0) ≤ j = rw (tab-length G.numbers.n (digit G.radices 0)) (omega arith) in
      get_or-eq_default (digits G 0) 0 out
])

none-sum : (P : Plan) (d β xs : List ℕ) → ((j : ℕ) → at xs j ≡ 0) → equation1 P d β xs ≡ 0
unfolding equation1
none-sum P d β xs none =
    ap₂ ◌+◌
    (sum-none (λ i. dot β i * dot d i) P.t (λ i l. ap (λ (n : ℕ). n * dot d i) (dot-none β i) ∙ zero-mul (dot d i)))
    (dot-none β P.t)
  where
    -- row i of weights times the variables
    dot : List ℕ → ℕ → ℕ
    dot ws i = sum (λ j. at ws (i * variables P + j) * at xs j) (variables P)

    dot-none : (ws : List ℕ) (i : ℕ) → dot ws i ≡ 0
    dot-none ws i =
        sum-none (λ j. at ws (i * variables P + j) * at xs j) (variables P)
        (λ j l. ap (λ (n : ℕ). at ws (i * variables P + j) * n) (none j) ∙ mul-zero (at ws (i * variables P + j)))

module _ (G : Given) (accepted : Accepted G) where
  pub too-many-entries : most_new G.numbers < product G.radices → SuitsAll G → ⊥
  too-many-entries l h = true≢false (sym (all_new G accepted h) ∙ sym (too_many G (within G accepted) (lent G accepted) l))

  pub no-links : G.numbers.m ≡ 0 → SuitsAll G → ⊥
  no-links none h =
      let p = G.numbers.p in
      let prime = (within G accepted).prime in
      let c = h (λ _. 1) (λ i l. (within G accepted).value_low) in
      let one = c.each 0 (drop-positive G.radices (radices-positive p G.radices (lent G accepted).radices.fit) 0) in
      let nothing = row-times G c.list 0 ∙ ap (λ (n : ℕ). n % p) (none-sum G.numbers G.products c.list (values G 0) (none-linked G none)) in
      omega (arith, cong-residue p (positive p prime) (above-one p prime) (sym nothing ∙ one))
