-- 02, C-18: the calls with records: what each answers and leaves, and the causes it can meet, in the order in which they are tested. Stands on
-- `Lists`, and on the records of `records`.
--     Filled, filled             what is handed from call to call: the store, the records and their count; the one of these three
--     pair_of r                  a record's entry and value
--     listed F                   the first count records, as pairs
--     list_cause, absent_cause   16, and 17, "when the withdrawn entry isn't listed"
--     listed_own                 the causes that both calls test first, of the listed pairs l: 6 16 7
--     record_own, withdraw_own   each call's own causes: 6 16 7 8 9, and 6 16 7 17
--     lent_own, own_of           its own parts: the store, the work store, so many records and the count; those of F
--     record_causes              filing with records: 1 2 3 4 5 6 16 7 8 9
--     withdraw_causes            withdrawing: 1 2 3 4 5 6 16 7 17
--     joined G F i v             what filing leaves: "an accepted entry not yet listed joins its end with its value", and the count is then one more
--     withdrawn G F i            what withdrawing leaves: the record gone, and "the store that filing the remaining list on an empty one gives"
--     record_answer, record_after        filing as a whole: what it answers, as `file` does, and what it leaves; a refusal leaves all as it was
--     withdraw_answer, withdraw_after    withdrawing as a whole: "It answers the value withdrawn"
--     work_after                 the work store after either: its old bytes are not tested, it is empty after a call that passes cause 5, and causes 1
--                                to 5 leave it
use Rattle.std.specs.Prelude.{Bool, cond, not, List, [], ◌∷◌, map, ℕ, ◌+◌, ◌-◌, length, take, set}
use Rattle.plan.specs.declared.admission.Own.{Own}
use Rattle.plan.specs.declared.admission.Own.TheVariants.{StoresAndRecords}
use Rattle.plan.specs.Causes.{first, leaves, Answer, answer}
use Rattle.plan.specs.Parts.{Given, call_causes}
use Rattle.plan.specs.Rows.{entry_cause}
use Rattle.store.specs.Calls.{empty_store, outcome_of, store_cause, value_cause, conflict_cause, values_of, filed}
use Rattle.records.specs.declared.Record.{Record}
use Rattle.records.specs.Listed.{record_of, removed}
use Rattle.ledger.specs.Lists.{Pair, has, place_of, value_of, without, filed_on, sound}

pub record Filled : Type 0 where
  pub store : List ℕ
  pub records : List Record
  pub count : ℕ

abbrev pub filled : List ℕ → List Record → ℕ → Filled
filled store records count = record { store = store; records = records; count = count }

abbrev pub pair_of : Record → Pair
pair_of r = (r.entry, r.value)

abbrev pub listed : Filled → List Pair
listed F = map pair_of (take F.count F.records)

abbrev pub list_cause : Given → List ℕ → List Pair → ℕ × Bool
list_cause G store l = (16, not (sound G store l))

abbrev pub absent_cause : List Pair → ℕ → ℕ × Bool
absent_cause l i = (17, not (has l i))

abbrev pub listed_own : List ℕ → List Pair → ℕ → Given → List (ℕ × Bool)
listed_own store l i G = store_cause G.numbers store ∷ list_cause G store l ∷ entry_cause G i ∷ []

abbrev pub record_own : List ℕ → List Pair → ℕ → ℕ → Given → List (ℕ × Bool)
record_own store l i v G =
    store_cause G.numbers store ∷ list_cause G store l ∷ entry_cause G i ∷ value_cause G.numbers v ∷ conflict_cause G store i v ∷ []

abbrev pub withdraw_own : List ℕ → List Pair → ℕ → Given → List (ℕ × Bool)
withdraw_own store l i G = store_cause G.numbers store ∷ list_cause G store l ∷ entry_cause G i ∷ absent_cause l i ∷ []

abbrev pub lent_own : List ℕ → List ℕ → ℕ → ℕ → Own
lent_own store work size count = StoresAndRecords (length store) (length work) size count

abbrev pub own_of : Filled → List ℕ → Own
own_of F work = lent_own F.store work (length F.records) F.count

abbrev pub record_causes : Given → Filled → List ℕ → ℕ → ℕ → List (ℕ × Bool)
record_causes G F work i v = call_causes G (own_of F work) (record_own F.store (listed F) i v)

abbrev pub withdraw_causes : Given → Filled → List ℕ → ℕ → List (ℕ × Bool)
withdraw_causes G F work i = call_causes G (own_of F work) (withdraw_own F.store (listed F) i)

abbrev pub joined : Given → Filled → ℕ → ℕ → Filled
joined G F i v =
    filled (filed G F.store i v)
    (cond (has (listed F) i) F.records (set F.records F.count (record_of i v)))
    (cond (has (listed F) i) F.count (F.count + 1))

abbrev pub withdrawn : Given → Filled → ℕ → Filled
withdrawn G F i =
    filled (filed_on G (empty_store G.numbers) (without (listed F) i)) (removed F.records F.count (place_of (listed F) i)) (F.count - 1)

-- the calls as a whole, as their contracts and demand 3 say them
unfoldable pub record_answer : Given → Filled → List ℕ → ℕ → ℕ → Answer
record_answer G F work i v = answer (first (record_causes G F work i v)) (values_of (outcome_of G F.store i v))

unfoldable pub record_after : Given → Filled → List ℕ → ℕ → ℕ → Filled
record_after G F work i v = leaves (first (record_causes G F work i v)) (joined G F i v) F

unfoldable pub withdraw_answer : Given → Filled → List ℕ → ℕ → Answer
withdraw_answer G F work i = answer (first (withdraw_causes G F work i)) (value_of (listed F) i ∷ [])

unfoldable pub withdraw_after : Given → Filled → List ℕ → ℕ → Filled
withdraw_after G F work i = leaves (first (withdraw_causes G F work i)) (withdrawn G F i) F

abbrev pub work_after : Given → Own → List ℕ → List ℕ
work_after G own work = leaves (first (call_causes G own (λ _. []))) (empty_store G.numbers) work
