-- One call of a list. `Held G S K` is the store law of `store` (`Holding`) for the plan's equations: the store S has its length and reduced
-- form, the lists that solve it are those that satisfy each entry of K, and the entries of K are in range.
--     positive-refusal, kept-passes     a call that is not kept was refused, and one that is kept was not
--     unkept-same        a call that is not kept leaves its store
--     within, lent       the accepted plan is within its limits, and its parts are as it asks
--     held-empty         the empty store, with nothing kept
--     refusal_is         what is left to refuse a call that is lent the plan
--     turn               what demand 3 claims of a call that is lent the plan
--     held_kept          the state after a call that is kept
-- Assumes nothing.
use mathlib.Core.Path.{◌≡◌, refl, sym, ap, subst, ◌∙◌}
use mathlib.Core.Bool.{true, false, cond, true≢false, false≢true}
use mathlib.Core.List.{List, [], ◌∷◌, ◌++◌}
use mathlib.Core.Logic.{◌↔◌}
use Prim.Native.Nat.{ℕ, zero, suc, ◌≤◌, ◌<◌}
use native.Mathlib.Omega.{arith}
use lib.Dec.{ltb}
use lib.ListN.{length}
use borrow.Author.Tests.{eq-eqb, lt-ltb, ltb-true, not-false}
use Rattle.lists.specs.Places.{at}
use Rattle.plan.specs.Causes as causes
use Rattle.plan.specs.Causes.{first, leaves, refuses}
use Rattle.plan.specs.Numbers.{columns, product, Within}
use Rattle.plan.specs.Parts.{Given, Lent}
use Rattle.plan.specs.Rows.{entry_cause}
use Rattle.plan.specs.declared.admission.Own.TheVariants.{Nothing, Store}
use Rattle.plan.proofs.Refusals.{none-met, leaves-refused}
use Rattle.plan.proofs.Admitting.{unrefused, accepted-call}
use Rattle.store.specs.Elimination.{Satisfies, Outcome, new, implied, contradiction, cells}
use Rattle.store.specs.Filings.{is_contradiction}
use Rattle.store.specs.Calls.{equation, outcome_of, value_cause, conflict_cause, file_own, values_of, answered, filed}
use Rattle.store.proofs.ReducedForm.{is_reduced-means}
use Rattle.store.proofs.EntryEquations.{equation-residues, satisfies-exactly}
use Rattle.store.proofs.Holding as holding
use Rattle.store.proofs.Holding.{Holds}
use Rattle.demands.specs.Demand3.{Accepted, Call, call, refusal, answer, store_after, is_kept, empty_store, Reproduces, Contradicts, Ours}

abbrev pub Held : Given → List ℕ → List (ℕ × ℕ) → Type 0
Held G = Holds G.numbers.p (columns G.numbers) G.numbers.s (product G.radices) (equation G)

-- a call that is not kept was refused
pub positive-refusal : (k : ℕ) (vs : List ℕ) → is_kept (causes.answer k vs) ≡ false → 0 < k
positive-refusal zero vs e = absurd (true≢false e)
positive-refusal (suc k) vs e = omega arith

pub unkept-same : (c : Call) → is_kept (answer c) ≡ false → store_after c ≡ c.store
unfolding refusal answer store_after
unkept-same c e =
    leaves-refused (refusal c) (filed c.lent c.store c.entry c.value) c.store
    (positive-refusal (refusal c) (values_of (outcome_of c.lent c.store c.entry c.value)) e)

-- what is answered in range, by the outcome
nine : (o : Outcome) → (answered o ≡ refuses 9) ↔ (o ≡ contradiction)
nine (new c) = ((λ e. let z : ◌≡◌ {A = ℕ} 0 1 = cc in absurd (omega arith)), (λ e. let z : ◌≡◌ {A = ℕ} 0 1 = cc in absurd (omega arith)))
nine implied = ((λ e. let z : ◌≡◌ {A = ℕ} 0 1 = cc in absurd (omega arith)), (λ e. let z : ◌≡◌ {A = ℕ} 0 1 = cc in absurd (omega arith)))
nine contradiction = ((λ e. refl), (λ e. refl))

kept-unless : (o : Outcome) → (answered o ≡ refuses 9 → ⊥) → is_kept (answered o) ≡ true
kept-unless (new c) h = refl
kept-unless implied h = refl
kept-unless contradiction h = absurd (h refl)

-- a kept answer: the refusal is 0
pub kept-passes : (k : ℕ) (vs : List ℕ) → is_kept (causes.answer k vs) ≡ true → k ≡ 0
kept-passes zero vs e = refl
kept-passes (suc k) vs e = absurd (false≢true e)

module _ (G : Given) (accepted : Accepted G) where
  pub within : Within G.numbers
  within = (unrefused G Nothing (λ _. []) accepted).within

  pub lent : Lent G
  lent = (unrefused G Nothing (λ _. []) accepted).lent

  pub held-empty : Held G (empty_store G) []
  held-empty = holding.holds-empty G.numbers.p (columns G.numbers) G.numbers.s (product G.radices) (equation G) within.prime

  residues : (i v : ℕ) → v < G.numbers.s → (j : ℕ) → j ≤ columns G.numbers → equation G i v j < G.numbers.p
  residues i v l = equation-residues G i v within lent (omega (arith, within.value-high))

  module _ (S : List ℕ) (K : List (ℕ × ℕ)) (h : Held G S K) (i v : ℕ) where
    pub refusal_is : refusal (call G S i v) ≡ first (entry_cause G i ∷ value_cause G.numbers v ∷ conflict_cause G S i v ∷ [])
    unfolding refusal
    refusal_is =
        accepted-call G accepted (Store (length S)) (file_own S i v) (eq-eqb _ _ h.size)
        ∙ rw ((is_reduced-means G.numbers.p (columns G.numbers) (cells (columns G.numbers) S)).1 h.reduced)

    -- the answer in range
    answer-is : i < product G.radices → v < G.numbers.s → answer (call G S i v) ≡ answered (outcome_of G S i v)
    unfolding answer refusal
    answer-is hi hv =
        ap (λ (k : ℕ). causes.answer k (values_of (outcome_of G S i v))) {y = cond (is_contradiction (outcome_of G S i v)) 9 0}
        (refusal_is ∙ rw (lt-ltb i (product G.radices) hi, lt-ltb v G.numbers.s hv))

    contradicts : v < G.numbers.s → (outcome_of G S i v ≡ contradiction) ↔ Contradicts G K i v
    contradicts hv =
        let c = holding.contradicts G.numbers.p (columns G.numbers) G.numbers.s (product G.radices) (equation G) within.prime residues S K h i v hv in (
          (λ e β l r each rep. c.0 e β l r (λ j u m. (exactly j u β).1 (each j u m)) ((exactly i v β).1 rep)),
          (λ none. c.1 (λ β l r each sat. none β l r (λ j u m. (exactly j u β).0 (each j u m)) ((exactly i v β).0 sat))),
        )
      where
        exactly : (j u : ℕ) (β : List ℕ) → Satisfies G.numbers.p (columns G.numbers) (equation G j u) (at β) ↔ Reproduces G β j u
        exactly j u β = satisfies-exactly G j u β

    pub turn : Ours G S K i v
    turn =
        record {
          unchanged = unkept-same (call G S i v);
          exactly = λ hi hv.
              let n = nine (outcome_of G S i v) in
              let c = contradicts hv in
              ((λ e. c.0 (n.0 (sym (answer-is hi hv) ∙ e))), (λ e. answer-is hi hv ∙ n.1 (c.1 e)));
          otherwise = λ hi hv ne.
              ap is_kept (answer-is hi hv) ∙ kept-unless (outcome_of G S i v) (λ e. ne (answer-is hi hv ∙ e));
        }

    -- a kept entry is in range, and the store after it is the filed one
    pub held_kept : is_kept (answer (call G S i v)) ≡ true → Held G (store_after (call G S i v)) (K ++ ((i, v) ∷ []))
    unfolding answer refusal store_after filed
    held_kept kept =
        let zero = kept-passes (refusal (call G S i v)) (values_of (outcome_of G S i v)) kept in
        let none = none-met (entry_cause G i ∷ value_cause G.numbers v ∷ conflict_cause G S i v ∷ []) (omega arith) (sym refusal_is ∙ zero) in
        let near = ltb-true i (product G.radices) (not-false (ltb i (product G.radices)) none.0) in
        let below = ltb-true v G.numbers.s (not-false (ltb v G.numbers.s) none.1.0) in
        subst (λ (X : List ℕ). Held G X (K ++ ((i, v) ∷ []))) (sym (ap (λ (k : ℕ). leaves k (filed G S i v) S) zero))
        (holding.holds-filed G.numbers.p (columns G.numbers) G.numbers.s (product G.radices) (equation G) within.prime residues S K h i v below near
        (λ e. true≢false (sym (ap is_contradiction e) ∙ none.1.1.0)))
