-- 02, C-15, "Reading a listing back", for a list of steps: "Given a plan and a listing, or its steps, return β. What is returned, written again,
-- is that listing exactly." The coefficients stand in the list at the places at which the writer writes them; they are read there, whatever the
-- list is, written again and compared. The theorem `steps-exactly` (proofs/StepsBack) says that the call accepts exactly when some coefficients
-- make the writer give the list, and that what it leaves are these. Stands on `program`; G is a plan as lent.
--     first_product P             the number of steps before the first product: the links' steps and the clearing of y
--     coefficient_step P b j      the step that adds variable j by its coefficient of row b: behind b products, each of 2L + 12 steps, and in a
--                                 product behind the clearing of u
--     recovered P steps           the coefficients that stand in those steps, rows 0 to t of L each
--     is_written P w d steps      they are residues, and written again they give the list, as a test
--     steps_own steps G           the call's own cause, 15; `steps_causes G steps β`: all that it can meet, 1 2 3 4 5 15
--     Written G steps β           β is a list of C residues from which the writer gives exactly this list
use Rattle.std.specs.Prelude.{◌≡◌, Bool, cond, not, ◌&&◌, List, [], ◌∷◌, ℕ, ◌+◌, ◌-◌, ◌*◌, ◌/◌, ltb, length}
use Rattle.lists.specs.Places.{tab, joined, same}
use Rattle.field.specs.Residues.{Residues}
use Rattle.field.specs.Rows.{all_below}
use Rattle.plan.specs.declared.numbers.Plan.{Plan}
use Rattle.plan.specs.declared.admission.Own.TheVariants.{Row}
use Rattle.plan.specs.Numbers.{variables, columns}
use Rattle.plan.specs.Parts.{Given, call_causes}
use Rattle.program.specs.Steps.{by_of}
use Rattle.program.specs.Layout.{layout}

abbrev pub first_product : Plan → ℕ
first_product P = P.m * (P.n + 2) + P.m * (P.m - 1) / 2 + 1

unfoldable pub coefficient_step : Plan → ℕ → ℕ → ℕ
coefficient_step P b j = first_product P + b * (2 * variables P + 12) + cond (ltb b P.t) 1 0 + j

unfoldable pub recovered : Plan → List ℕ → List ℕ
recovered P steps = joined (λ b. tab (variables P) (λ j. by_of steps (coefficient_step P b j))) (P.t + 1)

unfoldable pub is_written : Plan → List ℕ → List ℕ → List ℕ → Bool
is_written P w d steps =
    let β = recovered P steps in
    all_below P.p β && same steps (layout P w d β)

-- 15, "when no coefficients make the writer give exactly this"
abbrev pub steps_own : List ℕ → Given → List (ℕ × Bool)
steps_own steps G = (15, not (is_written G.numbers G.weights G.products steps)) ∷ []

abbrev pub steps_causes : Given → List ℕ → List ℕ → List (ℕ × Bool)
steps_causes G steps β = call_causes G (Row (length β)) (steps_own steps)

pub record Written (G : Given) (steps β : List ℕ) : Type 0 where
  pub places : length β ≡ columns G.numbers
  pub residues : Residues G.numbers.p β
  pub list : layout G.numbers G.weights G.products β ≡ steps
