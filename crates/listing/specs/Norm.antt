-- 01, "Worst norm": "The largest sum of squares of weights, each 0 to p−1, over the link rows, the d rows and all t+1 β rows.", as changed by
-- C-14: "A weight w above (p−1)/2 therefore counts as w − p in the worst norm." Stands on `plan`, and on `lists` for sums and the largest of
-- numbers.
--     short p w             a weight by its short side: w, or where it counts as w − p the positive p − w, whose square is the same
--     squares p ws from n   the sum of the squares of n weights of ws, from place `from` on, each by its short side
--     worst P w d β         the worst norm
--     norm_own β G          the call's own causes, where G is a plan as lent; `norm_causes G β`: all that it can meet, 1 2 3 4 5
--     answer_of a           01's number and values of its answer: the norm, or the refusal's number
--     norm_answer G β       what `worst_norm` answers
use Rattle.std.specs.Prelude.{Bool, cond, not, List, [], ◌∷◌, ℕ, ◌+◌, ◌-◌, ◌*◌, ◌/◌, max, ltb, length, Result}
use Rattle.lists.specs.Places.{sum, largest, at}
use Rattle.field.specs.Rows.{all_below}
use Rattle.plan.specs.declared.numbers.Plan.{Plan}
use Rattle.plan.specs.Causes.{first, Answer, answer, answer_with}
use Rattle.plan.specs.Numbers.{variables}
use Rattle.plan.specs.Parts.{Given, link_start, call_causes}
use Rattle.plan.specs.declared.admission.Own.TheVariants.{Row}
use Rattle.plan.specs.declared.refusal.Refusal.{Refusal}

unfoldable pub short : ℕ → ℕ → ℕ
short p w = cond (ltb ((p - 1) / 2) w) (p - w) w

unfoldable pub squares : ℕ → List ℕ → ℕ → ℕ → ℕ
squares p ws from n = sum (λ j. short p (at ws (from + j)) * short p (at ws (from + j))) n

unfoldable pub worst : Plan → List ℕ → List ℕ → List ℕ → ℕ
worst P w d β =
    max (largest (λ k. squares P.p w (link_start P k) (P.n + k)) P.m)
    (max (largest (λ b. squares P.p d (b * variables P) (variables P)) P.t)
    (largest (λ b. squares P.p β (b * variables P) (variables P)) (P.t + 1)))

-- 5 again, for "a given β not below p"
abbrev pub norm_own : List ℕ → Given → List (ℕ × Bool)
norm_own β G = (5, not (all_below G.numbers.p β)) ∷ []

abbrev pub norm_causes : Given → List ℕ → List (ℕ × Bool)
norm_causes G β = call_causes G (Row (length β)) (norm_own β)

abbrev pub answer_of : Result ℕ Refusal → Answer
answer_of a = answer_with (λ x. x ∷ []) a

-- the call as a whole
abbrev pub norm_answer : Given → List ℕ → Answer
norm_answer G β = answer (first (norm_causes G β)) (worst G.numbers G.weights G.products β ∷ [])
