-- 02, C-17: "Add a test that files each entry with value 0 on an empty work store and says yes when each was New." G is a plan as lent. Stands on
-- `store`; that yes means what it should is said in `demands` (`specs/General`).
--     work_after G i             the work store after the first i entries: "files each entry with value 0 on an empty work store"
--     is_general G               "each was New"
--     general_causes G work      the causes of the call: 1 2 3 4 5, where 4 is of the work store too
--     answer_of a                01's number and values for what the code answers: 1 for yes and 0 for no; the refusal's number
--     says_new a                 an answer of filing is New: it gives a column
--     general_answer, general_work   what `general` answers, and the work store it leaves: its old bytes are not tested, it is empty after a call
--                                that passes cause 5, and a refusal leaves it
use Rattle.std.specs.Prelude.{Bool, true, false, cond, List, [], ◌∷◌, ℕ, zero, suc, length, Result}
use Rattle.lists.specs.Places.{every}
use Rattle.plan.specs.declared.admission.Own.TheVariants.{Store}
use Rattle.plan.specs.Causes.{first, leaves, Answer, gives, refuses, answer, answer_with}
use Rattle.plan.specs.Numbers.{product}
use Rattle.plan.specs.Parts.{Given, call_causes}
use Rattle.store.specs.Filings.{is_new}
use Rattle.store.specs.Calls.{empty_store, outcome_of, filed}
use Rattle.plan.specs.declared.refusal.Refusal.{Refusal}

unfoldable pub work_after : Given → ℕ → List ℕ
work_after G zero = empty_store G.numbers
work_after G (suc i) = filed G (work_after G i) i 0

unfoldable pub is_general : Given → Bool
is_general G = every (λ i. is_new (outcome_of G (work_after G i) i 0)) (product G.radices)

abbrev pub general_causes : Given → List ℕ → List (ℕ × Bool)
general_causes G work = call_causes G (Store (length work)) (λ _. [])

abbrev pub answer_of : Result Bool Refusal → Answer
answer_of a = answer_with (λ suits. cond suits 1 0 ∷ []) a

abbrev pub says_new : Answer → Bool
says_new (gives []) = false
says_new (gives (c ∷ cs)) = true
says_new (refuses k) = false

-- the call as a whole
abbrev pub general_answer : Given → List ℕ → Answer
general_answer G work = answer (first (general_causes G work)) (cond (is_general G) 1 0 ∷ [])

abbrev pub general_work : Given → List ℕ → List ℕ
general_work G work = leaves (first (general_causes G work)) (empty_store G.numbers) work
