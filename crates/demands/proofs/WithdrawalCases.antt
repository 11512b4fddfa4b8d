-- 02, C-18: facts about the calls with records. Each computes. X is the XOR plan of `Cases`. Assumes nothing.
use mathlib.Core.Path.{◌≡◌, refl}
use mathlib.Core.List.{List, [], ◌∷◌, map}
use Prim.Native.Nat.{ℕ}
use lib.ListN.{replicate}
use Rattle.std.specs.Prelude.{Ok, Err}
use Rattle.lists.specs.Places.{sum, tab, every, joined, same}
use Rattle.field.specs.Primes.{is_prime, odd_prime}
use Rattle.field.specs.Residues.{inverse}
use Rattle.plan.specs.Causes.{gives, refuses}
use Rattle.plan.specs.Numbers.{product, bad_radix, radices_fit, out_of_range}
use Rattle.plan.specs.Parts.{Given, given, lengths_fit, values_fit, store_size, call_causes}
use Rattle.plan.specs.Rows.{digit, chain, values, weighted, row_place, row}
use Rattle.plan.specs.declared.refusal.Refusal.TheVariants.{Contradiction}
use Rattle.store.specs.declared.elimination.Filed.TheVariants.{New, Implied}
use Rattle.store.specs.Elimination.{is_zero_row, is_pivot, is_reduced, residual, lead, normal, inserted, outcome, after, row_start, cells, flat}
use Rattle.store.specs.Calls.{answer_of, filed, coefficients}
use Rattle.store.specs.declared.settling.Settled.TheVariants.{Forced, Free}
use Rattle.store.specs.Settled as settling
use Rattle.store.specs.Settled.{standing, settle_answer}
use Rattle.records.specs.Listed.{none, record_of}
use Rattle.ledger.specs.Lists.{has, distinct, place_of, value_of, without, filed_on, accepts, sound}
use Rattle.ledger.specs.Calls.{Filled, filled, own_of, record_answer, record_after, withdraw_answer, withdraw_after, work_after}
use Rattle.demands.specs.Withdrawals.{Act, file, withdraw, ours, filled_of, kept_with, start}
use Rattle.demands.proofs.Cases.{X}

-- a work store: its bytes are not tested
abbrev pub work : List ℕ
work = replicate 14 7

-- what is left after some calls, from a count of 0 on
abbrev pub upon : List Act → Filled
upon acts = filled_of X (start X (replicate 4 none)) (map (ours work) acts)

-- after (1,1), (2,1), (3,0) and (0,0); and after entry 1 is withdrawn
abbrev pub full : Filled
full = filled (1 ∷ 0 ∷ 0 ∷ 2 ∷ 0 ∷ 1 ∷ 0 ∷ 1 ∷ 1 ∷ 1 ∷ 1 ∷ 1 ∷ 0 ∷ 0 ∷ []) (record_of 1 1 ∷ record_of 2 1 ∷ record_of 3 0 ∷ record_of 0 0 ∷ []) 4

abbrev pub less : Filled
less = filled (1 ∷ 0 ∷ 1 ∷ 0 ∷ 1 ∷ 1 ∷ 1 ∷ 2 ∷ 2 ∷ 0 ∷ 0 ∷ 0 ∷ 0 ∷ 0 ∷ []) (record_of 2 1 ∷ record_of 3 0 ∷ record_of 0 0 ∷ none ∷ []) 3

-- the value of a digit is the digit times the one coefficient, modulo 5: entry 3 with 1 says what entry 1 with 2 says
abbrev pub times : Given
times = given 5 5 1 0 0 (5 ∷ []) [] [] []

abbrev pub first_two : Filled
first_two = filled (1 ∷ 2 ∷ []) (record_of 1 2 ∷ record_of 3 1 ∷ none ∷ none ∷ none ∷ []) 2

abbrev pub second-alone : Filled
second-alone = filled (1 ∷ 2 ∷ []) (record_of 3 1 ∷ none ∷ none ∷ none ∷ none ∷ []) 1

-- (1,1) and (2,1) listed, behind them two records that are no entries; and the same with three entries listed, behind them one
abbrev pub two : Filled
two = filled (upon (file 1 1 ∷ file 2 1 ∷ [])).store (record_of 1 1 ∷ record_of 2 1 ∷ record_of 9 9 ∷ record_of 8 8 ∷ []) 2

abbrev pub three : Filled
three = filled full.store (record_of 1 1 ∷ record_of 2 1 ∷ record_of 3 0 ∷ record_of 8 8 ∷ []) 3

-- the store of one list beside the records of another
abbrev pub unsound : Filled
unsound = filled full.store less.records 3

-- X with a weight of p, which is cause 5
abbrev pub heavy : Given
heavy = given 3 2 2 0 1 (2 ∷ 2 ∷ []) [] [] (1 ∷ 3 ∷ [])

pub record Withdrawn : Type 0 where
  -- filing with records answers as filing does, and the entries join the list
  pub file-1 : record_answer X (upon []) work 1 1 ≡ answer_of (Ok (New 1))
  pub file-2 : record_answer X (upon (file 1 1 ∷ [])) work 2 1 ≡ answer_of (Ok (New 0))
  pub file-3 : record_answer X (upon (file 1 1 ∷ file 2 1 ∷ [])) work 3 0 ≡ answer_of (Ok (New 2))
  pub file-4 : record_answer X (upon (file 1 1 ∷ file 2 1 ∷ file 3 0 ∷ [])) work 0 0 ≡ answer_of (Ok Implied)
  pub filed-4 : upon (file 1 1 ∷ file 2 1 ∷ file 3 0 ∷ file 0 0 ∷ []) ≡ full
  -- a listed entry with its value is Implied and joins nothing; with another value it is 9
  pub again : record_answer X full work 1 1 ≡ answer_of (Ok Implied)
  pub again-same : record_after X full work 1 1 ≡ full
  pub other-value : record_answer X full work 1 0 ≡ answer_of (Err Contradiction)
  -- "It answers the value withdrawn"; "closes the gap, sets the freed last record to zeros"
  pub value : withdraw_answer X full work 1 ≡ gives (1 ∷ [])
  pub gone : withdraw_after X full work 1 ≡ less
  -- the entries kept "and not withdrawn since"
  pub kept : kept_with X (upon []) [] (ours work (file 1 1) ∷ ours work (file 2 1) ∷ ours work (withdraw 1) ∷ []) ≡ (2, 1) ∷ []
  -- then the entry takes the other value
  pub corrected : record_answer X less work 1 0 ≡ answer_of (Ok (New 2))
  pub corrected-β : coefficients 4 (record_after X less work 1 0).store ≡ 2 ∷ 0 ∷ 2 ∷ 0 ∷ []
  -- settling tells whether it can: forced while it is kept, and free once it is withdrawn
  pub settled-kept : settle_answer X full.store 1 ≡ settling.answer_of (Ok (Forced 1))
  pub settled-gone : settle_answer X less.store 1 ≡ settling.answer_of (Ok (Free 2))
  -- an implied entry carries the store once the entry that was new is withdrawn
  pub implied : record_after times (filled (1 ∷ 2 ∷ []) (record_of 1 2 ∷ none ∷ none ∷ none ∷ none ∷ []) 1) (replicate 2 7) 3 1 ≡ first_two
  pub carries : withdraw_after times first_two (replicate 2 7) 1 ≡ second-alone
  -- then the withdrawn entry is forced all the same, and refused with another value
  pub still-forced : settle_answer times second-alone.store 1 ≡ settling.answer_of (Ok (Forced 2))
  pub still-refused : record_answer times second-alone (replicate 2 7) 1 3 ≡ answer_of (Err Contradiction)
  pub emptied : withdraw_after times second-alone (replicate 2 7) 3 ≡ filled (0 ∷ 0 ∷ []) (replicate 5 none) 0
  -- 17, "when the withdrawn entry isn't listed"; 7 comes before it
  pub absent : withdraw_answer X less work 1 ≡ refuses 17
  pub far : withdraw_answer X less work 4 ≡ refuses 7
  -- 16: an entry twice, a pair out of range, a contradiction, the store of another list; it comes before 7
  pub twice : record_answer X (filled less.store (record_of 2 1 ∷ record_of 3 0 ∷ record_of 2 1 ∷ none ∷ []) 3) work 1 0 ≡ refuses 16
  pub ranged : withdraw_answer X (filled less.store (record_of 2 1 ∷ record_of 3 0 ∷ record_of 4 0 ∷ none ∷ []) 3) work 2 ≡ refuses 16
  pub clash : withdraw_answer X (filled less.store (record_of 2 1 ∷ record_of 3 0 ∷ record_of 0 1 ∷ none ∷ []) 3) work 2 ≡ refuses 16
  pub another : withdraw_answer X unsound work 4 ≡ refuses 16
  -- of filing too 16 comes before 7, then 7 before 8, and 8 before 9
  pub unsound-far : record_answer X unsound work 4 2 ≡ refuses 16
  pub far-high : record_answer X less work 4 2 ≡ refuses 7
  pub high : record_answer X less work 2 2 ≡ refuses 8
  -- a store that is not in reduced form is 6, whatever the list
  pub damaged : record_answer X (filled (replicate 14 2) less.records 3) work 4 2 ≡ refuses 6
  -- records behind the count are neither tested nor changed: the entry that joins takes the first, and the place that a withdrawal frees becomes zeros
  pub behind-new : record_answer X two work 3 0 ≡ answer_of (Ok (New 2))
  pub behind-joined : record_after X two work 3 0 ≡ three
  pub behind-gone : withdraw_after X three work 1 ≡ filled less.store (record_of 2 1 ∷ record_of 3 0 ∷ none ∷ record_of 8 8 ∷ []) 2
  -- the work store is all zeros after a call that passes cause 5: carried out, or refused with 16 or 17
  pub work-used : work_after X (own_of full work) work ≡ replicate 14 0
  pub work-sixteen : (withdraw_answer X unsound work 1 ≡ refuses 16) × (work_after X (own_of unsound work) work ≡ replicate 14 0)
  pub work-seventeen : (withdraw_answer X less work 1 ≡ refuses 17) × (work_after X (own_of less work) work ≡ replicate 14 0)
  -- and as it was after 5 and 4
  pub work-five : (withdraw_answer heavy full work 1 ≡ refuses 5) × (work_after heavy (own_of full work) work ≡ work)
  pub work-four : (record_answer X (filled full.store full.records 5) work 1 1 ≡ refuses 4) × (work_after X (own_of (filled full.store full.records 5) work) work ≡ work)
  -- "A list of records of another length, or a count above it, is cause 4"; a work store of another length is too
  pub longer : record_answer X (filled full.store (replicate 5 none) 4) work 1 1 ≡ refuses 4
  pub above : record_answer X (filled full.store full.records 5) work 1 1 ≡ refuses 4
  pub work-short : withdraw_answer X full (replicate 13 7) 1 ≡ refuses 4

pub withdrawn : Withdrawn
unfolding record_answer record_after withdraw_answer withdraw_after filled_of kept_with has distinct place_of value_of without filed_on accepts sound same filed coefficients call_causes store_size row_start cells product bad_radix radices_fit out_of_range odd_prime is_prime every lengths_fit values_fit is_zero_row is_pivot is_reduced residual lead normal standing inserted outcome after flat joined tab sum row row_place weighted values chain digit inverse
withdrawn =
    record {
      file-1 = refl;
      file-2 = refl;
      file-3 = refl;
      file-4 = refl;
      filed-4 = refl;
      again = refl;
      again-same = refl;
      other-value = refl;
      value = refl;
      gone = refl;
      kept = refl;
      corrected = refl;
      corrected-β = refl;
      settled-kept = refl;
      settled-gone = refl;
      implied = refl;
      carries = refl;
      still-forced = refl;
      still-refused = refl;
      emptied = refl;
      absent = refl;
      far = refl;
      twice = refl;
      ranged = refl;
      clash = refl;
      another = refl;
      unsound-far = refl;
      far-high = refl;
      high = refl;
      damaged = refl;
      behind-new = refl;
      behind-joined = refl;
      behind-gone = refl;
      work-used = refl;
      work-sixteen = (refl, refl);
      work-seventeen = (refl, refl);
      work-five = (refl, refl);
      work-four = (refl, refl);
      longer = refl;
      above = refl;
      work-short = refl;
    }
