-- 02, C-18: "The contradiction promise then also covers lists of filings and withdrawals, each call with the records lent": one claim about a
-- whole list of them, over the definitions that the contracts of the two calls with records, of `coefficients`, the writer and `run` cite.
-- Stands on `Demand3`, and on the calls of `ledger`; `Filled` is what is handed from call to call, `Pair` an entry and its value.
--     Act                       what a call is asked: to file an entry with a value, or to withdraw an entry
--     Change                    one call of the list: lent the list's plan and what the call before left, with a work store of its own; or lent
--                               something else
--     answer_to, done, after    what a call answers, whether it was carried out, and what it leaves
--     BelongsWith G cs          a call that is lent the plan is lent a work store of the plan's length; one that is lent something else was refused
--     filled_of, kept_with      what a list of calls leaves, and the entries kept, told from the calls and their answers
--     kept_by act K             the entries kept after a call that was carried out
--     start G records           what the list begins with
--     Files, Withdraws, Acts    what is claimed of the answer to a call that is lent the plan: to a filing, to a withdrawal, to either
--     TurnWith G F K c          what is claimed of one call, with F left before it and the entries K kept before it
--     Demand3With G records cs  the claim
use Rattle.std.specs.Prelude.{◌≡◌, Bool, true, false, cond, ◌↔◌, ℕ, ◌*◌, ◌≤◌, ◌<◌, length}
use mathlib.Core.List.{List, [], ◌∷◌, ◌++◌, Memᴰ}
use Rattle.plan.specs.Causes.{Answer, gives, refuses}
use Rattle.plan.specs.Numbers.{columns, product}
use Rattle.plan.specs.Parts.{Given, store_size}
use Rattle.program.specs.Layout.{step_count}
use Rattle.records.specs.declared.Record.{Record}
use Rattle.ledger.specs.Lists.{Pair, without}
use Rattle.ledger.specs.Calls.{Filled, filled, record_answer, record_after, withdraw_answer, withdraw_after}
use Rattle.demands.specs.Demand3.{is_kept, empty_store, Contradicts, coefficients_read, program_written, Program}

-- "lists of filings and withdrawals, each call with the records lent"
pub data Act : Type 0 where
  file : ℕ → ℕ → Act
  withdraw : ℕ → Act

pub data Change : Type 0 where
  ours : List ℕ → Act → Change
  other : Given → Filled → List ℕ → Act → Change

abbrev pub answer_to : Given → Filled → List ℕ → Act → Answer
answer_to G F work (file i v) = record_answer G F work i v
answer_to G F work (withdraw i) = withdraw_answer G F work i

-- a filing answered New or Implied, or a withdrawal that answers a value: every other answer refuses
abbrev pub done : Given → Filled → List ℕ → Act → Bool
done G F work act = is_kept (answer_to G F work act)

abbrev pub after : Given → Filled → List ℕ → Act → Filled
after G F work (file i v) = record_after G F work i v
after G F work (withdraw i) = withdraw_after G F work i

-- 01, "a call that is lent something else .. belongs to such a list only if it is refused"; a work store of another length is something else, and
-- what it holds does not matter
unfoldable pub BelongsWith : Given → List Change → Type 0
BelongsWith G [] = Unit {0}
BelongsWith G (ours work act ∷ cs) = (length work ≡ store_size (columns G.numbers)) × BelongsWith G cs
BelongsWith G (other G' F work act ∷ cs) = (done G' F work act ≡ false) × BelongsWith G cs

-- "like the store, the records and their count are handed back between calls as they were left"; at `other`: `TurnWith` says that such a call
-- leaves what it was lent, so F stays
unfoldable pub filled_of : Given → Filled → List Change → Filled
filled_of G F [] = F
filled_of G F (ours work act ∷ cs) = filled_of G (after G F work act) cs
filled_of G F (other G' F' work act ∷ cs) = filled_of G F cs

-- "The entries kept, before a filing or after the last call, are then those kept earlier and not withdrawn since"
abbrev pub kept_by : Act → List Pair → List Pair
kept_by (file i v) K = K ++ ((i, v) ∷ [])
kept_by (withdraw i) K = without K i

unfoldable pub kept_with : Given → Filled → List Pair → List Change → List Pair
kept_with G F K [] = K
kept_with G F K (ours work act ∷ cs) = kept_with G (after G F work act) (cond (done G F work act) (kept_by act K) K) cs
kept_with G F K (other G' F' work act ∷ cs) = kept_with G F K cs

-- "that begin with an empty store and a count of 0", whatever the records lent
abbrev pub start : Given → List Record → Filled
start G records = filled (empty_store G) records 0

-- a filing in range is refused with 9 exactly when it contradicts the entries kept and not withdrawn since, and kept otherwise: "a filing answered
-- New or Implied has been kept, though its entry be withdrawn later"
pub record Files (G : Given) (F : Filled) (work : List ℕ) (K : List Pair) (i v : ℕ) : Type 0 where
  pub exactly : i < product G.radices → v < G.numbers.s → (record_answer G F work i v ≡ refuses 9) ↔ Contradicts G K i v
  pub otherwise : i < product G.radices → v < G.numbers.s → (record_answer G F work i v ≡ refuses 9 → ⊥) → is_kept (record_answer G F work i v) ≡ true

-- a withdrawal in range is refused with 17, "when the withdrawn entry isn't listed", exactly when no pair of its entry is kept; where one is, "It
-- answers the value withdrawn", which is the value kept, so it is refused with nothing else
pub record Withdraws (G : Given) (F : Filled) (work : List ℕ) (K : List Pair) (i : ℕ) : Type 0 where
  pub exactly : i < product G.radices → (withdraw_answer G F work i ≡ refuses 17) ↔ ((v : ℕ) → Memᴰ (i, v) K → ⊥)
  pub otherwise : (v : ℕ) → Memᴰ (i, v) K → withdraw_answer G F work i ≡ gives (v ∷ [])

abbrev pub Acts : Given → Filled → List ℕ → List Pair → Act → Type 0
Acts G F work K (file i v) = Files G F work K i v
Acts G F work K (withdraw i) = Withdraws G F work K i

-- a call that is not carried out leaves the store, the records and the count
abbrev pub TurnWith : Given → Filled → List Pair → Change → Type 0
TurnWith G F K (ours work act) = (done G F work act ≡ false → after G F work act ≡ F) × Acts G F work K act
TurnWith G F K (other G' F' work act) = after G' F' work act ≡ F'

pub record Demand3With (G : Given) (records : List Record) (cs : List Change) : Type 0 where
  pub turns : (before : List Change) (c : Change) (later : List Change) → cs ≡ before ++ (c ∷ later)
      → TurnWith G (filled_of G (start G records) before) (kept_with G (start G records) [] before) c
  pub program : (b steps : List ℕ) → length b ≡ columns G.numbers → 4 * step_count G.numbers ≤ length steps
      → let β = coefficients_read G (filled_of G (start G records) cs).store b in
      Program G (kept_with G (start G records) [] cs) β (program_written G β steps)
