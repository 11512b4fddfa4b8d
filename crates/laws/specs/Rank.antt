-- 02, C-17, and beyond it: how many filings can be New under a plan. 003's Equation 8 asks for (t+1)L ≥ s^n columns, as if all columns could be
-- independent. They are not: by d rows a and b the sum of d_a[j] times column j of block b is the sum of d_b[j] times column j of block a, since
-- both are the product of the two weighted sums. So of the L columns of a product's block as many are wasted as there are products before it, up
-- to L, and t products leave at most L + (L - 1) + .. columns beside the L of the last block. Stands on `plan`.
--     rows_most P       q, the smaller of t and L: no more d rows than that are independent
--     most_new P        (q + 1) L - q (q - 1) / 2
use Rattle.std.specs.Prelude.{cond, ℕ, ◌+◌, ◌-◌, ◌*◌, ◌/◌, ltb}
use Rattle.plan.specs.declared.numbers.Plan.{Plan}
use Rattle.plan.specs.Numbers.{variables}

unfoldable pub rows_most : Plan → ℕ
rows_most P = cond (ltb P.t (variables P)) P.t (variables P)

unfoldable pub most_new : Plan → ℕ
most_new P = (rows_most P + 1) * variables P - rows_most P * (rows_most P - 1) / 2
