-- `general::most_new` meets its contract: no number is large, and the result is the definition's (`Sizes`). Assumes nothing.
-- q is at most 32, and at most L, which is at most 64
use mathlib.Core.Path.{ap₂, ◌∙◌}
use Prim.Native.Nat.{ℕ, ◌+◌, ◌-◌, ◌*◌, ◌/◌, ◌≤◌}
use native.Mathlib.Omega.{arith}
use Rattle.laws.specs.Rank.{most_new}
use Rattle.general.proofs.Sizes.{rows-limit, product-limit, half-below, most-is}
use Rattle.general.proofs.most_new.Goals as goal

pub record Small (q l : ℕ) : Type 0 where
  pub rows : q ≤ 32
  pub below : q ≤ l
  pub variables : l ≤ 64

small : (c : goal.After-rows_most-q) → Small c.rows_most-q.result c.variables-l.result
small c =
    let within = c.requires in
    let limit = rows-limit _ within in
    record {
      rows = rw c.rows_most-q.ensures limit.0;
      below = rw (c.rows_most-q.ensures, c.variables-l.ensures) limit.1;
      variables = rw c.variables-l.ensures within.variable-limit;
    }

pub overflow_add-result : goal.overflow_add-result
overflow_add-result c = omega (arith, (small c).rows)

pub overflow_mul-result : goal.overflow_mul-result
overflow_mul-result c = omega (arith, product-limit (c.rows_most-q.result + 1) c.variables-l.result (omega (arith, (small c).rows)) (small c).variables)

pub overflow_add-result-2 : goal.overflow_add-result-2
overflow_add-result-2 c =
    omega (
      arith,
      (small c).rows,
      product-limit (c.rows_most-q.result + 1) c.variables-l.result (omega (arith, (small c).rows)) (small c).variables,
    )

pub overflow_add-result-3 : goal.overflow_add-result-3
overflow_add-result-3 c = omega (arith, (small c).rows)

pub overflow_mul-result-2 : goal.overflow_mul-result-2
overflow_mul-result-2 c =
    omega (arith, product-limit c.rows_most-q.result (c.rows_most-q.result + 1) (omega (arith, (small c).rows)) (omega (arith, (small c).rows)))

pub overflow_sub-result : goal.overflow_sub-result
overflow_sub-result c = half-below c.rows_most-q.result c.variables-l.result (small c).below

pub returns : goal.returns
unfolding most_new
returns c =
    most-is c.rows_most-q.result c.variables-l.result
    ∙ ap₂ (λ (q l : ℕ). (q + 1) * l - q * (q - 1) / 2) c.rows_most-q.ensures c.variables-l.ensures
