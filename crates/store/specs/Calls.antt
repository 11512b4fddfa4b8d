-- The calls on a store: what each answers and leaves, and the causes it can meet, in number order (01, "The store" and "Turned down"; 02,
-- C-11). G is a plan as lent, P its numbers. Stands on `Elimination`, and on the rows and causes of `plan`.
--     equation_of G i v          entry i with value v as an equation: row i, then v
--     equation G i v             the same by place
--     empty_store P              "An empty store is all zeros"
--     outcome_of G store i v     what filing entry i with value v comes to
--     store_cause P store        6, "store not in reduced form"
--     value_cause P v            8, "value not below s", whatever the radices are: "The header's s bounds table values only"
--     conflict_cause G store i v  9, "contradiction"
--     test_own, file_own, coefficients_own             each call's own causes
--     test_causes, file_causes, coefficients_causes    all causes of each call: 1 to 5 of the plan and the call's own parts, then its own
--     answer_of a                01's number and values for each case of filing's answer: the pivot column of `New`, none of `Implied`, the refusal's number
--     values_of o                the values that an outcome gives
--     answered o                 the answer by its outcome o alone, where no cause before 9 is met
--     column_of a C old          the pivot column that filing gives; C, which is no column, where it gives none; old, as it was, of a refusal
--     filed G store i v          the store after filing; what it spans is said by `Span`
--     file_answer, file_store    what `file` answers, and the store it leaves
--     coefficients C store       the coefficients read off: "coefficient q is the right-hand side of row q"
use Rattle.std.specs.Prelude.{Bool, cond, not, List, [], ◌∷◌, ◌++◌, ℕ, ltb, length, replicate, Result}
use Rattle.lists.specs.Places.{tab, at}
use Rattle.plan.specs.declared.numbers.Plan.{Plan}
use Rattle.plan.specs.declared.admission.Own.TheVariants.{Store, StoreAndRow}
use Rattle.plan.specs.Numbers.{columns}
use Rattle.plan.specs.Causes.{first, leaves, Answer, gives, refuses, answer, answer_with}
use Rattle.plan.specs.Parts.{Given, store_size, call_causes}
use Rattle.plan.specs.Rows.{row, entry_cause}
use Rattle.store.specs.Elimination.{Outcome, new, implied, contradiction, is_reduced, outcome, after, read_off, cells, flat}
use Rattle.store.specs.Filings.{is_contradiction}
use Rattle.store.specs.declared.elimination.Filed.{Filed}
use Rattle.store.specs.declared.elimination.Filed.TheVariants.{New, Implied}
use Rattle.plan.specs.declared.refusal.Refusal.{Refusal}

abbrev pub equation_of : Given → ℕ → ℕ → List ℕ
equation_of G i v = row G i ++ (v ∷ [])

abbrev pub equation : Given → ℕ → ℕ → ℕ → ℕ
equation G i v = at (equation_of G i v)

abbrev pub empty_store : Plan → List ℕ
empty_store P = replicate (store_size (columns P)) 0

abbrev pub outcome_of : Given → List ℕ → ℕ → ℕ → Outcome
outcome_of G store i v = outcome G.numbers.p (columns G.numbers) (cells (columns G.numbers) store) (equation G i v)

abbrev pub store_cause : Plan → List ℕ → ℕ × Bool
store_cause P store = (6, not (is_reduced P.p (columns P) (cells (columns P) store)))

abbrev pub value_cause : Plan → ℕ → ℕ × Bool
value_cause P v = (8, not (ltb v P.s))

abbrev pub conflict_cause : Given → List ℕ → ℕ → ℕ → ℕ × Bool
conflict_cause G store i v = (9, is_contradiction (outcome_of G store i v))

abbrev pub test_own : List ℕ → Given → List (ℕ × Bool)
test_own store G = store_cause G.numbers store ∷ []

abbrev pub test_causes : Given → List ℕ → List (ℕ × Bool)
test_causes G store = call_causes G (Store (length store)) (test_own store)

abbrev pub file_own : List ℕ → ℕ → ℕ → Given → List (ℕ × Bool)
file_own store i v G = store_cause G.numbers store ∷ entry_cause G i ∷ value_cause G.numbers v ∷ conflict_cause G store i v ∷ []

abbrev pub file_causes : Given → List ℕ → ℕ → ℕ → List (ℕ × Bool)
file_causes G store i v = call_causes G (Store (length store)) (file_own store i v)

abbrev pub coefficients_own : List ℕ → Given → List (ℕ × Bool)
coefficients_own store G = store_cause G.numbers store ∷ []

abbrev pub coefficients_causes : Given → List ℕ → List ℕ → List (ℕ × Bool)
coefficients_causes G store β = call_causes G (StoreAndRow (length store) (length β)) (coefficients_own store)

-- "It answers New with the pivot column, Implied, or a refusal"
abbrev pub told : Filed → List ℕ
told (New c) = c ∷ []
told Implied = []

abbrev pub answer_of : Result Filed Refusal → Answer
answer_of a = answer_with told a

abbrev pub values_of : Outcome → List ℕ
values_of (new c) = c ∷ []
values_of implied = []
values_of contradiction = []

abbrev pub answered : Outcome → Answer
answered o = answer (cond (is_contradiction o) 9 0) (values_of o)

abbrev pub column_of : Answer → ℕ → ℕ → ℕ
column_of (gives []) C old = C
column_of (gives (c ∷ vs)) C old = c
column_of (refuses k) C old = old

unfoldable pub filed : Given → List ℕ → ℕ → ℕ → List ℕ
filed G store i v =
    flat (columns G.numbers) (after G.numbers.p (columns G.numbers) (cells (columns G.numbers) store) (equation G i v))

unfoldable pub coefficients : ℕ → List ℕ → List ℕ
coefficients C store = tab C (read_off C (cells C store))

-- the calls as a whole, as their contracts and demand 3 say them
abbrev pub file_answer : Given → List ℕ → ℕ → ℕ → Answer
file_answer G store i v = answer (first (file_causes G store i v)) (values_of (outcome_of G store i v))

abbrev pub file_store : Given → List ℕ → ℕ → ℕ → List ℕ
file_store G store i v = leaves (first (file_causes G store i v)) (filed G store i v) store
