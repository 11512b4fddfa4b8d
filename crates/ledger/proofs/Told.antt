-- What the two calls over a list of numbers tell of the two calls with records: where the list is the records unpacked, and what is left to do of
-- the records is done, the answer and all that is left are those of specs/Calls. The list counts only where none of causes 1 to 5 refuses; the
-- records are then at most `entries_most`, so the list holds them all, and its pairs are the listed ones.
--     unchanged                    a refusal leaves the store, the records and the count
--     file-told, withdraw-told     the number answered; the store, the records and the count; the work store; and the number lent, the pivot column or
--                                  the value withdrawn
-- Assumes nothing.
use mathlib.Core.Path.{◌≡◌, refl, sym, ap, ap₂, subst, ◌∙◌}
use mathlib.Core.Bool.{Bool, true, false, cond}
use mathlib.Core.List.{List, [], ◌∷◌}
use Prim.Native.Nat.{ℕ, zero, suc, ◌+◌, ◌-◌, ◌*◌, ◌≤◌, ◌<◌}
use native.Mathlib.Omega.{arith}
use lib.ListN.{length, set}
use Rattle.std.specs.Prelude.{Some, None, Result, Ok, Err, IfOk}
use Rattle.plan.specs.Causes.{first, leaves, answer, number_of, number, refusal_of}
use Rattle.plan.specs.declared.refusal.Refusal.{Refusal}
use Rattle.plan.specs.Numbers.{columns, numbers_of}
use Rattle.plan.specs.Parts.{Given, call_causes, admitted}
use Rattle.plan.specs.declared.admission.Own.{Own}
use Rattle.plan.proofs.Admitting.{unrefused, turned-away}
use Rattle.plan.proofs.Refusals.{number-answer, number-positive, leaves-refused}
use Rattle.store.specs.Calls.{empty_store, outcome_of, values_of, column_of, filed}
use Rattle.records.specs.declared.Record.{Record}
use Rattle.records.specs.Listed.{record_of, removed_at, unpacked}
use Rattle.ledger.specs.Lists.{Pair, has, place_of, value_of, without, filed_on}
use Rattle.ledger.specs.Calls.{Filled, filled, listed, record_own, withdraw_own, own_of, withdraw_causes, joined, withdrawn, record_answer, record_after, withdraw_answer, withdraw_after, work_after}
use Rattle.ledger.specs.Stages.{entries_most, pairs, count_after, place_after, placed, taken_by, put_at, put_for, gone_for, FiledListed, WithdrawnListed}
use Rattle.ledger.specs.declared.calls.Placed.{Placed}
use Rattle.ledger.specs.declared.calls.Taken.{Taken}
use Rattle.records.proofs.Removals.{removed-there}
use Rattle.ledger.proofs.EntryLists.{pairs-length}
use Rattle.ledger.proofs.Unpacked.{unpacked-listed}
use Rattle.ledger.proofs.Places.{place-below}
use Rattle.ledger.proofs.Endings.{parts-of, found}

-- a call that one of causes 1 to 5 refuses is refused so whatever its own causes are
away : (G : Given) (own : Own) (k : ℕ) → first (call_causes G own (λ _. [])) ≡ suc k → (rest : Given → List (ℕ × Bool))
    → first (call_causes G own rest) ≡ suc k
unfolding admitted
away G own k e rest = sym (turned-away G own {k = suc k} (sym (ap (λ (j : ℕ). answer j (numbers_of G.numbers)) e)) rest).0

-- a record that is put where the list ends, or nowhere
put-joins : (there : Bool) (l : List Record) (count : ℕ) (x : Record) → put_at l (cond there None (Some count)) x ≡ cond there l (set l count x)
put-joins true l count x = refl
put-joins false l count x = refl

module _ (G : Given) (S work : List ℕ) (records : List Record) (count : ℕ) where
  abbrev F : Filled
  F = filled S records count

  -- the pairs that are read, and those that the records are
  module _ (list : List ℕ) (long : length list ≡ 2 * entries_most) where
    abbrev read : List Pair
    read = pairs count (unpacked (length records) 0 records list)

    passed : (rest : Given → List (ℕ × Bool)) → first (call_causes G (own_of F work) rest) ≡ 0 → (read ≡ listed F) × (count ≤ length records)
    passed rest e =
        let u = unrefused G (own_of F work) rest e in
        let parts = parts-of G.numbers G.radices (length S) (length work) (length records) count u.lent.radices.limit u.own-fits in
        (unpacked-listed S records count list parts.few (omega (arith, parts.records, u.lent.radices.limit, long)), parts.few)

    same-refusal : (rest : List Pair → Given → List (ℕ × Bool)) → first (call_causes G (own_of F work) (rest read)) ≡ first (call_causes G (own_of F work) (rest (listed F)))
    same-refusal rest = by_first (first (call_causes G (own_of F work) (λ _. []))) refl
      where
        by_first : (k : ℕ) → first (call_causes G (own_of F work) (λ _. [])) ≡ k
            → first (call_causes G (own_of F work) (rest read)) ≡ first (call_causes G (own_of F work) (rest (listed F)))
        by_first zero e = ap (λ (l : List Pair). first (call_causes G (own_of F work) (rest l))) (passed (λ _. []) e).0
        by_first (suc k) e = away G (own_of F work) k e (rest read) ∙ sym (away G (own_of F work) k e (rest (listed F)))

    listed-there : (i : ℕ) → first (call_causes G (own_of F work) (withdraw_own S read i)) ≡ 0
        → (read ≡ listed F) × (count ≤ length records) × (has (listed F) i ≡ true)
    listed-there i e =
        let meant = passed (withdraw_own S read i) e in (
          meant.0,
          meant.1,
          found G S (listed F) i (unrefused G (own_of F work) (withdraw_own S (listed F) i) (sym (same-refusal (λ (l : List Pair). withdraw_own S l i)) ∙ e)).rest-none,
        )

  -- a refusal leaves all as it was
  unchanged : (e : Refusal) (S' : List ℕ) (records' : List Record) (count' : ℕ) (S₁ : List ℕ) (count₁ : ℕ) (F₁ : Filled)
      → S' ≡ leaves (number e) S₁ S → count' ≡ leaves (number e) count₁ count → records' ≡ records → filled S' records' count' ≡ leaves (number e) F₁ F
  unchanged e S' records' count' S₁ count₁ F₁ stored counted put =
      let pos = number-positive e in
      ap (λ (X : List ℕ). filled X records' count') (stored ∙ leaves-refused (number e) S₁ S pos)
      ∙ ap₂ (λ (X : List Record) (c : ℕ). filled S X c) put (counted ∙ leaves-refused (number e) count₁ count pos)
      ∙ sym (leaves-refused (number e) F₁ F pos)

  -- what filing leaves, by its answer, where l is the listed pairs if that is no refusal
  joins : (i v : ℕ) (l : List Pair) (r : Result Placed Refusal) (S' : List ℕ) (records' : List Record) (count' : ℕ) → (refusal_of r ≡ 0 → l ≡ listed F)
      → IfOk r (λ x. x ≡ placed (place_after l count i) i v) → S' ≡ leaves (refusal_of r) (filed G S i v) S
      → count' ≡ leaves (refusal_of r) (count_after l count i) count → records' ≡ put_for records r
      → filled S' records' count' ≡ leaves (refusal_of r) (joined G F i v) F
  joins i v l (Ok x) S' records' count' same answered stored counted put =
      let now = put ∙ ap (λ (y : Placed). put_at records y.«at» (record_of y.entry y.value)) answered ∙ put-joins (has l i) records count (record_of i v) in
      ap (λ (X : List ℕ). filled X records' count') stored
      ∙ ap₂ (λ (X : List Record) (c : ℕ). filled (filed G S i v) X c) now counted
      ∙ ap (λ (m : List Pair). filled (filed G S i v) (cond (has m i) records (set records count (record_of i v))) (cond (has m i) count (count + 1))) (same refl)
  joins i v l (Err e) S' records' count' same answered stored counted put = unchanged e S' records' count' _ _ _ stored counted put

  pub file-told : (list₀ list : List ℕ) (size i v column : ℕ) (r : Result Placed Refusal) (S' work' : List ℕ) (count' column' : ℕ) (records' : List Record)
      → length list₀ ≡ 2 * entries_most → size ≡ length records → list ≡ unpacked (length records) 0 records list₀
      → FiledListed G S work list size count i v column r S' work' count' column' → records' ≡ put_for records r
      → (refusal_of r ≡ number_of (record_answer G F work i v)) × (filled S' records' count' ≡ record_after G F work i v)
      × (work' ≡ work_after G (own_of F work) work) × (column' ≡ column_of (record_answer G F work i v) (columns G.numbers) column)
  unfolding record_answer record_after
  file-told list₀ list size i v column r S' work' count' column' records' long sized copied heard put =
      let unpacks = unpacked (length records) 0 records list₀ in
      let of-list = subst (λ (l : List ℕ). FiledListed G S work l size count i v column r S' work' count' column') copied heard in
      let told = subst (λ (n : ℕ). FiledListed G S work unpacks n count i v column r S' work' count' column') sized of-list in
      let vs = values_of (outcome_of G S i v) in
      let refused = told.refusal ∙ same-refusal list₀ long (λ (l : List Pair). record_own S l i v) in
      let same = λ (e : refusal_of r ≡ 0). (passed list₀ long (record_own S (pairs count unpacks) i v) (sym told.refusal ∙ e)).0 in
      let left = joins i v (pairs count unpacks) r S' records' count' same told.answered told.stored told.counted put in (
        sym (number-answer (refusal_of r) vs) ∙ ap (λ (j : ℕ). number_of (answer j vs)) refused,
        left ∙ ap (λ (j : ℕ). leaves j (joined G F i v) F) refused,
        told.worked,
        told.placing ∙ ap (λ (j : ℕ). column_of (answer j vs) (columns G.numbers) column) refused,
      )

  -- what withdrawing leaves, by its answer, where l is the listed pairs and the entry one of theirs if that is no refusal
  goes : (i : ℕ) (l : List Pair) (r : Result Taken Refusal) (S' : List ℕ) (records' : List Record) (count' : ℕ)
      → (refusal_of r ≡ 0 → (l ≡ listed F) × (count ≤ length records) × (has (listed F) i ≡ true)) → IfOk r (λ x. x ≡ taken_by l count i)
      → S' ≡ leaves (refusal_of r) (filed_on G (empty_store G.numbers) (without l i)) S → count' ≡ leaves (refusal_of r) (count - 1) count
      → records' ≡ gone_for records r → filled S' records' count' ≡ leaves (refusal_of r) (withdrawn G F i) F
  goes i l (Ok x) S' records' count' same answered stored counted gone =
      let meant = same refl in
      let long = pairs-length records count meant.1 in
      let place = (place-below (listed F) i).0 meant.2 in
      let below : place_of (listed F) i < count = omega (arith, place, long) in
      let told = gone ∙ ap (λ (y : Taken). removed_at records y.count y.«at») answered in
      let there = ap (λ (m : List Pair). removed_at records count (place_of m i)) meant.0 in
      let now = told ∙ there ∙ removed-there records count (place_of (listed F) i) below meant.1 in
      ap (λ (X : List ℕ). filled X records' count') (stored ∙ ap (λ (m : List Pair). filed_on G (empty_store G.numbers) (without m i)) meant.0)
      ∙ ap₂ (λ (X : List Record) (c : ℕ). filled (filed_on G (empty_store G.numbers) (without (listed F) i)) X c) now counted
  goes i l (Err e) S' records' count' same answered stored counted gone = unchanged e S' records' count' _ _ _ stored counted gone

  value-by : (i value k : ℕ) (l : List Pair) → (k ≡ 0 → l ≡ listed F) → leaves k (value_of l i) value ≡ leaves k (value_of (listed F) i) value
  value-by i value zero l same = ap (λ (m : List Pair). value_of m i) (same refl)
  value-by i value (suc k) l same = refl

  pub withdraw-told : (list₀ list : List ℕ) (size i value : ℕ) (r : Result Taken Refusal) (S' work' : List ℕ) (count' value' : ℕ) (records' : List Record)
      → length list₀ ≡ 2 * entries_most → size ≡ length records → list ≡ unpacked (length records) 0 records list₀
      → WithdrawnListed G S work list size count i value r S' work' count' value' → records' ≡ gone_for records r
      → (refusal_of r ≡ number_of (withdraw_answer G F work i)) × (filled S' records' count' ≡ withdraw_after G F work i)
      × (work' ≡ work_after G (own_of F work) work) × (value' ≡ leaves (first (withdraw_causes G F work i)) (value_of (listed F) i) value)
  unfolding withdraw_answer withdraw_after
  withdraw-told list₀ list size i value r S' work' count' value' records' long sized copied heard gone =
      let unpacks = unpacked (length records) 0 records list₀ in
      let of-list = subst (λ (l : List ℕ). WithdrawnListed G S work l size count i value r S' work' count' value') copied heard in
      let told = subst (λ (n : ℕ). WithdrawnListed G S work unpacks n count i value r S' work' count' value') sized of-list in
      let vs = value_of (listed F) i ∷ [] in
      let refused = told.refusal ∙ same-refusal list₀ long (λ (l : List Pair). withdraw_own S l i) in
      let same = λ (e : refusal_of r ≡ 0). listed-there list₀ long i (sym told.refusal ∙ e) in
      let left = goes i (pairs count unpacks) r S' records' count' same told.answered told.stored told.counted gone in (
        sym (number-answer (refusal_of r) vs) ∙ ap (λ (j : ℕ). number_of (answer j vs)) refused,
        left ∙ ap (λ (j : ℕ). leaves j (withdrawn G F i) F) refused,
        told.worked,
        told.valued
            ∙ value-by i value (refusal_of r) (pairs count unpacks) (λ e. (same e).0)
            ∙ ap (λ (j : ℕ). leaves j (value_of (listed F) i) value) refused,
      )
