-- The calls on programs: their causes in number order, what they answer and what they leave (01, "Turned down", causes 10 to 12, and 02, C-11;
-- what the writer hands back, "The written program"; what the run answers, "Running it"). Stands on `Steps` and `Layout`, and on `plan`; G is
-- a plan as lent.
--     writing_causes P β room  check a writing, and the writer: their own causes, 5 for β and 10; room is the step slice's length
--     write_own β room G      the same of a plan as lent
--     write_causes G β steps  all that they can meet: 1 2 3 4 5 10
--     digits_fit R digits     each digit is below its own radix, as a test
--     run_own steps digits G  the run: its own causes, 11 and 12; `run_causes G steps digits`: all that it can meet, 1 2 3 4 5 11 12
--     written k P ..          the step slice after the writer: the layout and the rest as it was, or, refusing, all as it was
--     handed k P ..           what the writer hands back: the layout, or, refusing, nothing
--     told r                  the values of what the run answers: y and the number of bootstraps
--     answer_of a             01's number and values for the run's answer: those values, or the refusal's number
--     writer_hands, run_answer     what `write` hands back, and what `run` answers
use Rattle.std.specs.Prelude.{Bool, not, List, [], ◌∷◌, ℕ, ◌*◌, ltb, length, Result}
use Rattle.lists.specs.Places.{every, at, placed}
use Rattle.field.specs.Rows.{all_below}
use Rattle.plan.specs.declared.numbers.Plan.{Plan}
use Rattle.plan.specs.declared.admission.Own.TheVariants.{Row, Digits}
use Rattle.plan.specs.Parts.{Given, call_causes}
use Rattle.plan.specs.Causes.{first, leaves, Answer, answer, answer_with}
use Rattle.program.specs.Steps.{well_formed, output, bootstraps}
use Rattle.program.specs.Layout.{layout, step_count}
use Rattle.program.specs.declared.running.Ran.{Ran}
use Rattle.plan.specs.declared.refusal.Refusal.{Refusal}

-- 5 again, for "a given β not below p"; 10, "step slice shorter than 4 times the step count"
abbrev pub writing_causes : Plan → List ℕ → ℕ → List (ℕ × Bool)
writing_causes P β room = (5, not (all_below P.p β)) ∷ (10, ltb room (4 * step_count P)) ∷ []

abbrev pub write_own : List ℕ → ℕ → Given → List (ℕ × Bool)
write_own β room G = writing_causes G.numbers β room

abbrev pub write_causes : Given → List ℕ → List ℕ → List (ℕ × Bool)
write_causes G β steps = call_causes G (Row (length β)) (write_own β (length steps))

-- 02, C-11: "cause 12 compares each digit with its own radix"
unfoldable pub digits_fit : List ℕ → List ℕ → Bool
digits_fit R digits = every (λ j. ltb (at digits j) (at R j)) (length digits)

-- 11, a step list that is not well formed; 12, "run digit not below s", with the digit's radix for s
abbrev pub run_own : List ℕ → List ℕ → Given → List (ℕ × Bool)
run_own steps digits G =
    (11, not (well_formed G.numbers steps)) ∷ (12, not (digits_fit G.radices digits)) ∷ []

abbrev pub run_causes : Given → List ℕ → List ℕ → List (ℕ × Bool)
run_causes G steps digits = call_causes G (Digits (length digits)) (run_own steps digits)

unfoldable pub written : ℕ → Plan → List ℕ → List ℕ → List ℕ → List ℕ → List ℕ
written k P w d β steps = leaves k (placed steps 0 (layout P w d β)) steps

unfoldable pub handed : ℕ → Plan → List ℕ → List ℕ → List ℕ → List ℕ
handed k P w d β = leaves k (layout P w d β) []

abbrev pub told : Ran → List ℕ
told r = r.y ∷ r.bootstraps ∷ []

abbrev pub answer_of : Result Ran Refusal → Answer
answer_of a = answer_with told a

-- the calls as a whole, as their contracts and demand 3 say them
abbrev pub writer_hands : Given → List ℕ → List ℕ → List ℕ
writer_hands G β steps = handed (first (write_causes G β steps)) G.numbers G.weights G.products β

abbrev pub run_answer : Given → List ℕ → List ℕ → Answer
run_answer G steps digits =
    answer (first (run_causes G steps digits)) (output G.numbers G.tables steps digits ∷ bootstraps steps ∷ [])
