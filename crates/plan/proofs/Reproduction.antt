-- A row times β is the right-hand side of Equation 1 modulo p. The sum over the C columns is cut into t + 1 blocks of L; in a product's
-- block the weighted sum is a common factor, and the last block is the linear term.
-- Assumes nothing.
use mathlib.Core.Path.{◌≡◌, ap, ◌∙◌}
use mathlib.Core.List.{List}
use Prim.Native.Nat.{ℕ, ◌+◌, ◌*◌, ◌%◌, ◌<◌}
use native.Mathlib.Nat.{mul_comm}
use native.Mathlib.Omega.{arith}
use Rattle.lists.specs.Places.{sum, at}
use Rattle.lists.proofs.Sums.{sum-ext, sum-mul, sum-next, sum-blocks}
use Rattle.lists.proofs.Tabs.{tab-at}
use Rattle.field.proofs.Modular.{sum-cong, cong-add, mul-mod-l}
use Rattle.plan.specs.Numbers.{variables, columns}
use Rattle.plan.specs.Parts.{Given}
use Rattle.plan.specs.Rows.{weighted, row_place, row, values}
use Rattle.plan.specs.Equation.{equation1, reproduced}
use Rattle.plan.specs.declared.numbers.Plan.{Plan}
use Rattle.plan.proofs.Blocks.{product-place, last-place}

module _ (P : Plan) (d β xs : List ℕ) where
  term : ℕ → ℕ
  term c = row_place P d xs c * at β c

  left : ℕ → ℕ
  left b = sum (λ j. at β (b * variables P + j) * at xs j) (variables P)

  block : ℕ → ℕ
  block b = sum (λ j. term (b * variables P + j)) (variables P)

  product_term : (b j : ℕ) → b < P.t → j < variables P → term (b * variables P + j) % P.p ≡ (at β (b * variables P + j) * at xs j * weighted P d xs b) % P.p
  unfolding term
  product_term b j hb hj =
      ap (λ (z : ℕ). (z * at β (b * variables P + j)) % P.p) (product-place P d xs b j hb hj)
      ∙ mul-mod-l (at xs j * weighted P d xs b) (at β (b * variables P + j)) P.p
      ∙ ap (λ (z : ℕ). z % P.p) (omega arith)

  product-sum : (b : ℕ) → b < P.t → block b % P.p ≡ (left b * weighted P d xs b) % P.p
  unfolding block left
  product-sum b hb =
      sum-cong P.p (λ j. term (b * variables P + j)) (λ j. at β (b * variables P + j) * at xs j * weighted P d xs b) (variables P)
      (λ j hj. product_term b j hb hj)
      ∙ ap (λ (z : ℕ). z % P.p) (sum-mul (λ j. at β (b * variables P + j) * at xs j) (weighted P d xs b) (variables P))

  last_sum : block P.t ≡ left P.t
  unfolding block left term
  last_sum =
      sum-ext (λ j. row_place P d xs (P.t * variables P + j) * at β (P.t * variables P + j)) (λ j. at β (P.t * variables P + j) * at xs j) (variables P)
      (λ j hj. ap (λ (z : ℕ). z * at β (P.t * variables P + j)) (last-place P d xs j hj) ∙ mul_comm (at xs j) (at β (P.t * variables P + j)))

  pub columns-times : sum (λ c. row_place P d xs c * at β c) (columns P) % P.p ≡ equation1 P d β xs % P.p
  unfolding equation1 term left block weighted
  columns-times =
      ap (λ (z : ℕ). z % P.p) (sum-blocks term (P.t + 1) (variables P) ∙ sum-next block P.t)
      ∙ cong-add P.p (sum block P.t) (sum (λ b. left b * weighted P d xs b) P.t) (block P.t) (left P.t)
      (sum-cong P.p block (λ b. left b * weighted P d xs b) P.t product-sum) (ap (λ (z : ℕ). z % P.p) last_sum)

pub row-times : (G : Given) (β : List ℕ) (i : ℕ) → reproduced G i β % G.numbers.p ≡ equation1 G.numbers G.products β (values G i) % G.numbers.p
unfolding reproduced row
row-times G β i =
    let P = G.numbers in
    ap (λ (z : ℕ). z % P.p)
    (sum-ext (λ c. at (row G i) c * at β c) (λ c. row_place P G.products (values G i) c * at β c) (columns P)
    (λ c l. ap (λ (z : ℕ). z * at β c) (tab-at (columns P) (row_place P G.products (values G i)) 0 c l)))
    ∙ columns-times P G.products β (values G i)
