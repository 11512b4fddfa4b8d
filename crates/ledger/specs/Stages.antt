-- What the functions inside the calls with records compute, over a list of numbers that holds the records, two numbers each. Stands on `Lists`.
--     entries_most           the most entries that a plan has, and so the most records
--     pairs_from k i list    k pairs of a list of numbers, from pair i on
--     pairs count list       the first count of them
--     as_pair x, as_pairs xs the pair that two numbers are, and the pairs of a list of such
--     first_at xs i          the place of the first of these that is of entry i, where one is
--     ranged n s l           each entry is below n, and each value below s, as a test
--     unseen marks l         no entry of l is marked, as a test
--     consistent G S l       no pair is a contradiction when they are filed in order on the store S, as a test
--     record_refusal, withdraw_refusal   the call's refusal, by all its causes
--     answer_sound, store_sound  what filing answers and leaves where the call is admitted
--     count_after, place_after   the count after filing, and where the entry joins the list; none where it is listed
--     placed, taken_by       what is left to do of the records: a record to be put at a place, or one to be removed
--     put_for, gone_for r    the records after what the answer r of filing, and of withdrawing, leaves to do; a refusal leaves nothing to do
--     FiledListed, WithdrawnListed       what the two calls over such a list answer and leave; a prime marks what they leave
use Rattle.std.specs.Prelude.{◌≡◌, Bool, true, cond, not, ◌&&◌, List, [], ◌∷◌, map, Option, Some, None, Result, Ok, Err, IfOk, ◌==◌, ℕ, zero, suc, ◌+◌, ◌-◌, ◌*◌, eqb, ltb, set}
use Rattle.std.specs.List.{position}
use Rattle.lists.specs.Places.{at}
use Rattle.plan.specs.Causes.{first, leaves, Answer, answer, refusal_of}
use Rattle.plan.specs.declared.refusal.Refusal.{Refusal}
use Rattle.plan.specs.Numbers.{columns}
use Rattle.plan.specs.Parts.{Given, call_causes}
use Rattle.store.specs.Filings.{is_contradiction}
use Rattle.store.specs.Calls.{empty_store, outcome_of, values_of, column_of, filed}
use Rattle.records.specs.declared.Record.{Record}
use Rattle.records.specs.Listed.{record_of, removed_at}
use Rattle.ledger.specs.Lists.{Pair, has, place_of, value_of, without, filed_on}
use Rattle.ledger.specs.Calls.{record_own, withdraw_own, lent_own, work_after}
use Rattle.ledger.specs.declared.calls.Placed.{Placed}
use Rattle.ledger.specs.declared.calls.Taken.{Taken}

-- 01, "s^n is at most 4,096", which cause 3 keeps (`limit` of `plan/specs/Numbers`); in code it is `Plan::ENTRIES`
abbrev pub entries_most : ℕ
entries_most = 4096

unfoldable pub pairs_from : ℕ → ℕ → List ℕ → List Pair
pairs_from zero i list = []
pairs_from (suc k) i list = (at list (2 * i), at list (2 * i + 1)) ∷ pairs_from k (i + 1) list

abbrev pub pairs : ℕ → List ℕ → List Pair
pairs count list = pairs_from count 0 list

abbrev pub as_pair : List ℕ → Pair
as_pair x = (at x 0, at x 1)

abbrev pub as_pairs : List (List ℕ) → List Pair
as_pairs xs = map as_pair xs

abbrev pub first_at : List (List ℕ) → ℕ → Option ℕ
first_at xs i = position (λ x. at x 0 == i) xs

unfoldable pub ranged : ℕ → ℕ → List Pair → Bool
ranged n s [] = true
ranged n s (x ∷ l) = (ltb x.0 n && ltb x.1 s) && ranged n s l

unfoldable pub unseen : List ℕ → List Pair → Bool
unseen marks [] = true
unseen marks (x ∷ l) = eqb (at marks x.0) 0 && unseen marks l

unfoldable pub consistent : Given → List ℕ → List Pair → Bool
consistent G S [] = true
consistent G S (x ∷ l) = not (is_contradiction (outcome_of G S x.0 x.1)) && consistent G (filed G S x.0 x.1) l

abbrev pub count_after : List Pair → ℕ → ℕ → ℕ
count_after l count i = cond (has l i) count (count + 1)

abbrev pub place_after : List Pair → ℕ → ℕ → Option ℕ
place_after l count i = cond (has l i) None (Some count)

abbrev pub answer_sound : Given → List ℕ → List Pair → ℕ → ℕ → Answer
answer_sound G store l i v = answer (first (record_own store l i v G)) (values_of (outcome_of G store i v))

abbrev pub store_sound : Given → List ℕ → List Pair → ℕ → ℕ → List ℕ
store_sound G store l i v = leaves (first (record_own store l i v G)) (filed G store i v) store

abbrev pub placed : Option ℕ → ℕ → ℕ → Placed
placed place i v = record { «at» = place; entry = i; value = v }

abbrev pub taken_by : List Pair → ℕ → ℕ → Taken
taken_by l count i = record { count = count; «at» = place_of l i }

abbrev pub put_at : List Record → Option ℕ → Record → List Record
put_at records (Some k) x = set records k x
put_at records None x = records

abbrev pub put_for : List Record → Result Placed Refusal → List Record
put_for records (Ok r) = put_at records r.«at» (record_of r.entry r.value)
put_for records (Err e) = records

abbrev pub gone_for : List Record → Result Taken Refusal → List Record
gone_for records (Ok r) = removed_at records r.count r.«at»
gone_for records (Err e) = records

abbrev pub record_refusal : Given → List ℕ → List ℕ → List ℕ → ℕ → ℕ → ℕ → ℕ → ℕ
record_refusal G store work list size count i v =
    first (call_causes G (lent_own store work size count) (record_own store (pairs count list) i v))

abbrev pub withdraw_refusal : Given → List ℕ → List ℕ → List ℕ → ℕ → ℕ → ℕ → ℕ
withdraw_refusal G store work list size count i =
    first (call_causes G (lent_own store work size count) (withdraw_own store (pairs count list) i))

pub record FiledListed (G : Given) (store work list : List ℕ) (size count i v column : ℕ) (r : Result Placed Refusal) (store' work' : List ℕ) (count' column' : ℕ) : Type 0 where
  pub refusal : refusal_of r ≡ record_refusal G store work list size count i v
  pub answered : IfOk r (λ x. x ≡ placed (place_after (pairs count list) count i) i v)
  pub stored : store' ≡ leaves (refusal_of r) (filed G store i v) store
  pub worked : work' ≡ work_after G (lent_own store work size count) work
  pub counted : count' ≡ leaves (refusal_of r) (count_after (pairs count list) count i) count
  pub placing : column' ≡ column_of (answer (refusal_of r) (values_of (outcome_of G store i v))) (columns G.numbers) column

pub record WithdrawnListed (G : Given) (store work list : List ℕ) (size count i value : ℕ) (r : Result Taken Refusal) (store' work' : List ℕ) (count' value' : ℕ) : Type 0 where
  pub refusal : refusal_of r ≡ withdraw_refusal G store work list size count i
  pub answered : IfOk r (λ x. x ≡ taken_by (pairs count list) count i)
  pub stored : store' ≡ leaves (refusal_of r) (filed_on G (empty_store G.numbers) (without (pairs count list) i)) store
  pub worked : work' ≡ work_after G (lent_own store work size count) work
  pub counted : count' ≡ leaves (refusal_of r) (count - 1) count
  pub valued : value' ≡ leaves (refusal_of r) (value_of (pairs count list) i) value
