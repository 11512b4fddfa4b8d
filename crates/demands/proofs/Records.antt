-- One call of a list of filings and withdrawals, lent what the call before left (`Keeps` of `Keeping`). The list is sound then, so that filing with
-- records answers what filing answers, and a withdrawal is refused with 7 or 17 alone.
--     unchanged        a call that is not carried out leaves what it was lent
--     acts             what demand 3 claims of the answer to a call
--     keeps-act        the state after it
-- Assumes nothing.
use mathlib.Core.Path.{◌≡◌, refl, sym, ap, subst, ◌∙◌}
use mathlib.Core.Bool.{Bool, true, false, cond, not, true≢false}
use mathlib.Core.List.{List, [], ◌∷◌, ◌++◌, Memᴰ}
use mathlib.Core.Logic.{◌↔◌}
use Prim.Native.Nat.{ℕ, ◌<◌}
use native.Mathlib.Omega.{arith}
use lib.Dec.{eqb, leb}
use lib.ListN.{length}
use borrow.Author.Tests.{eq-eqb, lt-ltb, le-leb, not-false}
use Rattle.lists.proofs.Tests.{both}
use Rattle.plan.specs.Causes as causes
use Rattle.plan.specs.Causes.{first, leaves, Answer, gives, refuses}
use Rattle.plan.specs.Numbers.{columns, product}
use Rattle.plan.specs.Parts.{Given, store_size, own_fits}
use Rattle.plan.specs.Rows.{entry_cause}
use Rattle.plan.specs.declared.admission.Own.TheVariants.{Store}
use Rattle.plan.proofs.Refusals.{none-met, leaves-refused}
use Rattle.plan.proofs.Admitting.{accepted-call}
use Rattle.store.specs.Elimination.{cells}
use Rattle.store.specs.Calls.{file_own, outcome_of, values_of}
use Rattle.store.proofs.ReducedForm.{is_reduced-means}
use Rattle.ledger.specs.Lists.{Pair, has, value_of, without, sound}
use Rattle.ledger.specs.Calls.{Filled, listed, absent_cause, record_own, withdraw_own, own_of, record_causes, withdraw_causes, joined, withdrawn, record_answer, record_after, withdraw_answer, withdraw_after}
use Rattle.ledger.proofs.EntryLists.{mem-has, value-mem}
use Rattle.demands.specs.Demand3.{Accepted, call, answer, is_kept, Contradicts}
use Rattle.demands.specs.Withdrawals.{Act, file, withdraw, done, after, kept_by, Files, Withdraws, Acts}
use Rattle.demands.proofs.Turns.{positive-refusal, kept-passes, turn}
use Rattle.demands.proofs.Refiling.{filed-kept, one_value, held-sound}
use Rattle.demands.proofs.Keeping.{Keeps, keeps-joined, keeps-withdrawn}

pub unchanged : (G : Given) (F : Filled) (work : List ℕ) (act : Act) → done G F work act ≡ false → after G F work act ≡ F
unfolding record_answer record_after withdraw_answer withdraw_after
unchanged G F work (file i v) e =
    let k = first (record_causes G F work i v) in
    leaves-refused k (joined G F i v) F (positive-refusal k (values_of (outcome_of G F.store i v)) e)
unchanged G F work (withdraw i) e =
    let k = first (withdraw_causes G F work i) in
    leaves-refused k (withdrawn G F i) F (positive-refusal k (value_of (listed F) i ∷ []) e)

module _ (G : Given) (accepted : Accepted G) (F : Filled) (K : List Pair) (h : Keeps G F K) (work : List ℕ) (room : length work ≡ store_size (columns G.numbers)) where
  abbrev S : List ℕ
  S = F.store

  abbrev l : List Pair
  l = listed F

  lengths : own_fits (own_of F work) G.numbers G.radices ≡ true
  lengths =
      let size = store_size (columns G.numbers) in
      both (eqb (length S) size) _ (eq-eqb _ _ h.held.size)
      (both (eqb (length work) size) _ (eq-eqb _ _ room)
      (both (eqb (length F.records) (product G.radices)) (leb F.count (length F.records)) (eq-eqb _ _ h.wide) (le-leb _ _ h.fits)))

  is-sound : sound G S l ≡ true
  is-sound = held-sound G accepted S K h.held l h.once h.alike

  record_is : (i v : ℕ) → record_answer G F work i v ≡ answer (call G S i v)
  unfolding record_answer answer
  record_is i v =
      ap (λ (k : ℕ). causes.answer k (values_of (outcome_of G S i v)))
      (accepted-call G accepted (own_of F work) (record_own S l i v) lengths
      ∙ listed-well ∙ sym (accepted-call G accepted (Store (length S)) (file_own S i v) (eq-eqb _ _ h.held.size)))
    where
      listed-well : first (record_own S l i v G) ≡ first (file_own S i v G)
      listed-well = rw is-sound

  files : (i v : ℕ) → Files G F work K i v
  files i v =
      let t = turn G accepted S K h.held i v in
      record {
        exactly = λ near below. subst (λ (a : Answer). (a ≡ refuses 9) ↔ Contradicts G K i v) (sym (record_is i v)) (t.exactly near below);
        otherwise = λ near below. subst (λ (a : Answer). (a ≡ refuses 9 → ⊥) → is_kept a ≡ true) (sym (record_is i v)) (t.otherwise near below);
      }

  withdraw-refusal : (i : ℕ) → first (withdraw_causes G F work i) ≡ first (entry_cause G i ∷ absent_cause l i ∷ [])
  withdraw-refusal i =
      accepted-call G accepted (own_of F work) (withdraw_own S l i) lengths
      ∙ rw ((is_reduced-means G.numbers.p (columns G.numbers) (cells (columns G.numbers) S)).1 h.held.reduced, is-sound)

  withdraw-is : (i : ℕ) → i < product G.radices → withdraw_answer G F work i ≡ cond (has l i) (gives (value_of l i ∷ [])) (refuses 17)
  unfolding withdraw_answer
  withdraw-is i near =
      ap (λ (k : ℕ). causes.answer k (value_of l i ∷ [])) (withdraw-refusal i) ∙ rw (lt-ltb i (product G.radices) near) (by (has l i))
    where
      by : (b : Bool) → causes.answer (cond (not b) 17 0) (value_of l i ∷ []) ≡ cond b (gives (value_of l i ∷ [])) (refuses 17)
      by true = refl
      by false = refl

  withdraws : (i : ℕ) → Withdraws G F work K i
  withdraws i =
      record {
        exactly = λ near. subst (λ (a : Answer). (a ≡ refuses 17) ↔ ((v : ℕ) → Memᴰ (i, v) K → ⊥)) (sym (withdraw-is i near)) (by (has l i) refl);
        otherwise = λ v m.
            let here = mem-has l i v ((h.alike i v).0 m) in
            withdraw-is i (h.held.ranges i v m).0 ∙ rw here
            (ap (λ (u : ℕ). gives (u ∷ [])) (one_value G accepted S K h.held i (value_of l i) v ((h.alike i (value_of l i)).1 (value-mem l i here)) m));
      }
    where
      by : (b : Bool) → has l i ≡ b → (cond b (gives (value_of l i ∷ [])) (refuses 17) ≡ refuses 17) ↔ ((v : ℕ) → Memᴰ (i, v) K → ⊥)
      by true e = (
        (λ x. let z : ◌≡◌ {A = ℕ} 0 1 = cc in absurd (omega arith)),
        (λ none. absurd (none (value_of l i) ((h.alike i (value_of l i)).1 (value-mem l i e)))),
      )
      by false e = ((λ x v m. true≢false (sym (mem-has l i v ((h.alike i v).0 m)) ∙ e)), (λ none. refl))

  pub acts : (act : Act) → Acts G F work K act
  acts (file i v) = files i v
  acts (withdraw i) = withdraws i

  carried : (act : Act) → done G F work act ≡ true → Keeps G (after G F work act) (kept_by act K)
  unfolding record_answer record_after withdraw_answer withdraw_after
  carried (file i v) e =
      subst (λ (X : Filled). Keeps G X (K ++ ((i, v) ∷ [])))
      (sym (ap (λ (k : ℕ). leaves k (joined G F i v) F) (kept-passes (first (record_causes G F work i v)) (values_of (outcome_of G S i v)) e)))
      (keeps-joined G accepted F K h i v (filed-kept G accepted S K h.held i v (ap is_kept (sym (record_is i v)) ∙ e)).1)
  carried (withdraw i) e =
      let zero = kept-passes (first (withdraw_causes G F work i)) (value_of l i ∷ []) e in
      let none = none-met (entry_cause G i ∷ absent_cause l i ∷ []) (omega arith) (sym (withdraw-refusal i) ∙ zero) in
      subst (λ (X : Filled). Keeps G X (without K i)) (sym (ap (λ (k : ℕ). leaves k (withdrawn G F i) F) zero))
      (keeps-withdrawn G accepted F K h i (not-false (has l i) none.1.0))

  pub keeps-act : (act : Act) → Keeps G (after G F work act) (cond (done G F work act) (kept_by act K) K)
  keeps-act act = by (done G F work act) refl
    where
      by : (b : Bool) → done G F work act ≡ b → Keeps G (after G F work act) (cond b (kept_by act K) K)
      by true e = carried act e
      by false e = subst (λ (X : Filled). Keeps G X K) (sym (unchanged G F work act e)) h
