-- What the two calls answer and leave, by their refusal.
--     Parts, parts-of          the lengths of an admitted call's own parts, and the count; parts-in as the code has the plan
--     left_alone               a refusal leaves what is lent as it was
--     cleared-after            the work store after a call that is admitted
--     before-filing, before-withdrawing    where none of the causes is met that both calls test first, the others are left
--     sound-listed             the store and the list are then sound
--     found                    of a withdrawal that is not refused: the entry is listed
--     refused-filing, kept-filing          what `file_listed` says, of a refusal and of an entry that is kept
--     refused-withdrawal, made-withdrawal        what `withdraw_listed` says, of a refusal and of a withdrawal
-- Assumes nothing.
use mathlib.Core.Path.{◌≡◌, refl, sym, ap, ap₂, ◌∙◌}
use mathlib.Core.Bool.{true, ◌&&◌}
use mathlib.Core.List.{List, [], ◌∷◌}
use Prim.Native.Nat.{ℕ, ◌-◌, ◌≤◌, ◌<◌}
use native.Mathlib.Omega.{arith}
use lib.Dec.{eqb, leb}
use borrow.Author.Tests.{eqb-true, leb-true, not-false}
use Rattle.lists.proofs.Tests.{both_true}
use Rattle.plan.specs.declared.numbers.Plan.{Plan}
use Rattle.plan.specs.declared.admission.Own.TheVariants.{StoresAndRecords}
use Rattle.plan.specs.Causes.{first, leaves, gives, number}
use Rattle.plan.specs.Numbers.{columns, product}
use Rattle.plan.specs.Parts.{Given, store_size, own_fits, call_causes}
use Rattle.plan.specs.Lending.{whole}
use Rattle.plan.specs.declared.admission.Own.{Own}
use Rattle.plan.specs.declared.lending.CheckedPlan.{CheckedPlan}
use Rattle.store.proofs.StoreCalls.{cleared-work}
use lib.ListN.{length, replicate}
use Rattle.plan.proofs.Refusals.{none-met, first-passed, answer-gives, leaves-refused, refused-answer, number-positive}
use Rattle.plan.specs.declared.refusal.Refusal.{Refusal}
use Rattle.std.specs.Prelude.{Ok, Err}
use Rattle.store.specs.Elimination.{is_reduced, cells}
use Rattle.store.specs.Calls.{empty_store, outcome_of, value_cause, conflict_cause, told, answer_of, values_of, column_of, filed}
use Rattle.store.specs.declared.elimination.Filed.{Filed}
use Rattle.ledger.specs.Lists.{Pair, has, value_of, without, filed_on, sound}
use Rattle.ledger.specs.Calls.{listed_own, absent_cause, record_own, withdraw_own, lent_own, work_after}
use Rattle.ledger.specs.declared.calls.Placed.{Placed}
use Rattle.ledger.specs.declared.calls.Taken.{Taken}
use Rattle.ledger.specs.Stages.{entries_most, pairs, answer_sound, store_sound, count_after, place_after, placed, taken_by, record_refusal, withdraw_refusal, FiledListed, WithdrawnListed}

pub record Parts (P : Plan) (R : List ℕ) (k j r count : ℕ) : Type 0 where
  pub store : k ≡ store_size (columns P)
  pub work : j ≡ store_size (columns P)
  pub records : r ≡ product R
  pub few : count ≤ r
  pub most : count ≤ entries_most

pub parts-of : (P : Plan) (R : List ℕ) (k j r count : ℕ) → product R ≤ entries_most → own_fits (StoresAndRecords k j r count) P R ≡ true → Parts P R k j r count
parts-of P R k j r count limit h =
    let a = both_true (eqb k (store_size (columns P))) (eqb j (store_size (columns P)) && (eqb r (product R) && leb count r)) h in
    let b = both_true (eqb j (store_size (columns P))) (eqb r (product R) && leb count r) a.1 in
    let c = both_true (eqb r (product R)) (leb count r) b.1 in
    let records = eqb-true r (product R) c.0 in
    let few = leb-true count r c.1 in
    record { store = eqb-true _ _ a.0; work = eqb-true _ _ b.0; records = records; few = few; most = omega (arith, few, records, limit) }

pub parts-in : (Q : CheckedPlan) {k j r count : ℕ} → own_fits (StoresAndRecords k j r count) Q.numbers Q.radices.now ≡ true
    → Parts Q.numbers Q.radices.now k j r count
parts-in Q h = parts-of Q.numbers Q.radices.now _ _ _ _ Q.lent.radices.limit h

-- a refusal leaves what is lent as it was
pub left_alone : {A : Type 0} (F k : ℕ) (new old : A) → k ≡ F → 0 < k → old ≡ leaves F new old
left_alone F k new old e pos = sym (leaves-refused F new old (omega (arith, e, pos)))

-- the work store, which is cleared last
pub cleared-after : (G : Given) (own : Own) (Q : CheckedPlan) (k : ℕ) (out old : List ℕ) → whole Q ≡ G → first (call_causes G own (λ _. [])) ≡ 0
    → out ≡ replicate k 0 → length out ≡ length old → length old ≡ store_size (columns Q.numbers) → out ≡ work_after G own old
cleared-after G own Q k out old same none zeroed long places =
    cleared-work Q.numbers k out old zeroed long places ∙ ap₂ (λ (j : ℕ) (K : Given). leaves j (empty_store K.numbers) old) (sym none) same

-- the causes that both calls test first, before others
pub before-filing : (G : Given) (S : List ℕ) (l : List Pair) (i v : ℕ) → first (listed_own S l i G) ≡ 0
    → first (record_own S l i v G) ≡ first (value_cause G.numbers v ∷ conflict_cause G S i v ∷ [])
before-filing G S l i v e = first-passed (listed_own S l i G) (value_cause G.numbers v ∷ conflict_cause G S i v ∷ []) (omega arith) e

pub before-withdrawing : (G : Given) (S : List ℕ) (l : List Pair) (i : ℕ) → first (listed_own S l i G) ≡ 0
    → first (withdraw_own S l i G) ≡ first (absent_cause l i ∷ [])
before-withdrawing G S l i e = first-passed (listed_own S l i G) (absent_cause l i ∷ []) (omega arith) e

pub sound-listed : (G : Given) (S : List ℕ) (l : List Pair) (i : ℕ) → first (listed_own S l i G) ≡ 0
    → (is_reduced G.numbers.p (columns G.numbers) (cells (columns G.numbers) S) ≡ true) × (sound G S l ≡ true)
sound-listed G S l i e =
    let none = none-met (listed_own S l i G) (omega arith) e in
    (not-false _ none.0, not-false _ none.1.0)

pub found : (G : Given) (S : List ℕ) (l : List Pair) (i : ℕ) → first (withdraw_own S l i G) ≡ 0 → has l i ≡ true
found G S l i e = not-false (has l i) (none-met (withdraw_own S l i G) (omega arith) e).1.1.1.0

module _ (G : Given) (S work list : List ℕ) (size count i : ℕ) (S' work' : List ℕ) (worked : work' ≡ work_after G (lent_own S work size count) work) where
  pub refused-filing : (v column : ℕ) (e : Refusal) → number e ≡ record_refusal G S work list size count i v → S' ≡ S
      → FiledListed G S work list size count i v column (Err e) S' work' count column
  refused-filing v column e told left =
      record {
        refusal = told;
        answered = tt;
        stored = left ∙ sym (leaves-refused (number e) (filed G S i v) S (number-positive e));
        worked = worked;
        counted = sym (leaves-refused (number e) (count_after (pairs count list) count i) count (number-positive e));
        placing = ap (λ a. column_of a (columns G.numbers) column) (refused-answer (number e) (number e) (values_of (outcome_of G S i v)) refl (number-positive e));
      }

  -- H is the plan as it was admitted, and l the pairs as the code reads them
  pub kept-filing : (v column : ℕ) (H : Given) (l : List Pair) (f : Filed) (x : Placed) (count' column' : ℕ) → H ≡ G → l ≡ pairs count list
      → record_refusal G S work list size count i v ≡ first (record_own S (pairs count list) i v H)
      → record { r_value : answer_of (Ok f) ≡ answer_sound H S l i v; store_after : S' ≡ store_sound H S l i v }
      → x ≡ placed (place_after l count i) i v → count' ≡ count_after l count i → column' ≡ column_of (answer_of (Ok f)) (columns H.numbers) column
      → FiledListed G S work list size count i v column (Ok x) S' work' count' column'
  kept-filing v column H l f x count' column' same read rest sound put counted placing =
      let heard = answer-gives (first (record_own S l i v H)) (values_of (outcome_of H S i v)) (told f) (sym sound.r_value) in
      let gives-same = sym heard.1 ∙ ap (λ (K : Given). values_of (outcome_of K S i v)) same in
      record {
        refusal = sym (rest ∙ ap (λ (m : List Pair). first (record_own S m i v H)) (sym read) ∙ heard.0);
        answered = put ∙ ap (λ (m : List Pair). placed (place_after m count i) i v) read;
        stored = sound.store_after ∙ ap (λ (k : ℕ). leaves k (filed H S i v) S) heard.0 ∙ ap (λ (K : Given). filed K S i v) same;
        worked = worked;
        counted = counted ∙ ap (λ (m : List Pair). count_after m count i) read;
        placing = placing ∙ ap₂ (λ (vs : List ℕ) (K : Given). column_of (gives vs) (columns K.numbers) column) gives-same same;
      }

  pub refused-withdrawal : (value : ℕ) (e : Refusal) → number e ≡ withdraw_refusal G S work list size count i → S' ≡ S
      → WithdrawnListed G S work list size count i value (Err e) S' work' count value
  refused-withdrawal value e told left =
      record {
        refusal = told;
        answered = tt;
        stored = left ∙ sym (leaves-refused (number e) (filed_on G (empty_store G.numbers) (without (pairs count list) i)) S (number-positive e));
        worked = worked;
        counted = sym (leaves-refused (number e) (count - 1) count (number-positive e));
        valued = sym (leaves-refused (number e) (value_of (pairs count list) i) value (number-positive e));
      }

  pub made-withdrawal : (value : ℕ) (H : Given) (l : List Pair) (x : Taken) (value' : ℕ) → H ≡ G → l ≡ pairs count list
      → withdraw_refusal G S work list size count i ≡ first (withdraw_own S (pairs count list) i H)
      → record {
        refusal : 0 ≡ first (withdraw_own S l i H);
        taken : x ≡ taken_by l count i;
        store_after : S' ≡ filed_on H (empty_store H.numbers) (without l i);
      }
      → value' ≡ value_of l i → WithdrawnListed G S work list size count i value (Ok x) S' work' (count - 1) value'
  made-withdrawal value H l x value' same read rest made valued =
      record {
        refusal = sym (rest ∙ ap (λ (m : List Pair). first (withdraw_own S m i H)) (sym read) ∙ sym made.refusal);
        answered = made.taken ∙ ap (λ (m : List Pair). taken_by m count i) read;
        stored = made.store_after ∙ ap₂ (λ (K : Given) (m : List Pair). filed_on K (empty_store K.numbers) (without m i)) same read;
        worked = worked;
        counted = refl;
        valued = valued ∙ ap (λ (m : List Pair). value_of m i) read;
      }
