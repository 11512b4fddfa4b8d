-- 003, Equation 1, with its own nested sums:
--     Σ_{i=0}^{t-1} (Σ_{j=0}^{L-1} β_{i,j} · x_j) · (Σ_{k=0}^{L-1} d_{i,k} · x_k) + Σ_{j=0}^{L-1} β_{t,j} · x_j
-- where β_{i,j} is β_{iL+j} ("a flattened container") and d is t rows of L. `Rattle.plan.proofs.Reproduction.row-times` says that a row
-- times β is its right-hand side modulo p. Stands on `Numbers`, and on `Rows` for the row of 01, "From entry to row".
--     equation1 P d β xs            the right-hand side, over the variables xs
--     reproduced G i β              "row i times β, summed"
use Rattle.std.specs.Prelude.{List, ℕ, ◌+◌, ◌*◌}
use Rattle.lists.specs.Places.{sum, at}
use Rattle.plan.specs.Numbers.{variables, columns}
use Rattle.plan.specs.Parts.{Given}
use Rattle.plan.specs.Rows.{row}
use Rattle.plan.specs.declared.numbers.Plan.{Plan}

unfoldable pub equation1 : Plan → List ℕ → List ℕ → List ℕ → ℕ
equation1 P d β xs =
    sum (λ i. sum (λ j. at β (i * variables P + j) * at xs j) (variables P) * sum (λ k. at d (i * variables P + k) * at xs k) (variables P)) P.t
    + sum (λ j. at β (P.t * variables P + j) * at xs j) (variables P)

unfoldable pub reproduced : Given → ℕ → List ℕ → ℕ
reproduced G i β = sum (λ c. at (row G i) c * at β c) (columns G.numbers)
