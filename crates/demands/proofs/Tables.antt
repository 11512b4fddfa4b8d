-- Whole tables filed in order on an empty store, and which of their entries are New.
--     table_after G f i         the store after the first i entries, each with its value in f; `outcome_at`: what entry i then comes to
--     ready                     it is ready for the next
--     filed-table               where none was a contradiction, its solutions are the lists that satisfy those entries
--     zeros-kept                with the value 0 none is one: all zeros satisfy every entry
--     same-coefficients         its coefficients are those of the store of value 0, so that which entries are New does not depend on their values
--     table-solved              if each entry is New with the value 0, some coefficients reproduce the table
--     new-reached               an entry that some list does not give 0, but each entry before it, is New with the value 0
-- Assumes nothing.
use mathlib.Core.Path.{◌≡◌, refl, sym, ap, ◌∙◌}
use mathlib.Core.Bool.{true, true≢false}
use mathlib.Core.List.{List}
use mathlib.Core.Logic.{◌↔◌, ◌≢◌}
use Prim.Native.Nat.{ℕ, zero, suc, ◌*◌, ◌%◌, ◌≤◌, ◌<◌}
use native.Mathlib.Nat.{le_refl, le_of_lt, le_step, lt-suc_self, not-suc-le-zero, mul-zero}
use native.Mathlib.Decide.{ℕ_discrete}
use native.Mathlib.Omega.{arith}
use Rattle.lists.specs.Places.{at}
use Rattle.lists.proofs.Sums.{sum-none}
use Rattle.plan.specs.Numbers.{columns, Within}
use Rattle.plan.specs.Parts.{Given, Lent}
use Rattle.store.specs.Elimination.{Satisfies, Solves, Outcome, new, implied, contradiction, after, cells}
use Rattle.store.specs.Filings.{is_new}
use Rattle.store.specs.Stages.{Ready}
use Rattle.store.specs.Calls.{equation, empty_store, outcome_of, filed}
use Rattle.store.proofs.Combinations.{satisfies-zero}
use Rattle.store.proofs.Filing.{positive, Equation, stored-reads, stored-solves}
use Rattle.store.proofs.ReadingOff.{solution, solution-solves}
use Rattle.store.proofs.Contradictions.{no-solution}
use Rattle.store.proofs.Implications.{implied-satisfies}
use Rattle.store.proofs.EntryEquations.{coefficient, right-hand, equation-residues, satisfies-exactly}
use Rattle.store.proofs.Holding.{zeros-read}
use Rattle.store.proofs.Readiness.{empty-ready, filed-ready}
use Rattle.laws.proofs.SameOutcomes.{after-ext, new-ext}
use Rattle.demands.specs.Demand3.{Reproduces}

unfoldable pub table_after : Given → (ℕ → ℕ) → ℕ → List ℕ
table_after G f zero = empty_store G.numbers
table_after G f (suc i) = filed G (table_after G f i) i (f i)

abbrev pub outcome_at : Given → (ℕ → ℕ) → ℕ → Outcome
outcome_at G f i = outcome_of G (table_after G f i) i (f i)

abbrev pub zeros : ℕ → ℕ
zeros i = 0

module _ (G : Given) (within : Within G.numbers) (lent : Lent G) where
  abbrev p : ℕ
  p = G.numbers.p

  abbrev C : ℕ
  C = columns G.numbers

  pos : 0 < p
  pos = positive p within.prime

  module _ (f : ℕ → ℕ) (small : (i : ℕ) → f i < G.numbers.p) where
    pub ready : (i : ℕ) → Ready p C (table_after G f i)
    unfolding table_after
    ready zero = empty-ready G.numbers within
    ready (suc i) = filed-ready G (table_after G f i) i (f i) within lent (small i) (ready i)

    residues : (i : ℕ) → Equation p C (equation G i (f i))
    residues i = equation-residues G i (f i) within lent (small i)

    pub filed-table : (i : ℕ) → ((k : ℕ) → k < i → outcome_at G f k ≢ contradiction) → (β : ℕ → ℕ)
        → Solves p C (cells C (table_after G f i)) β ↔ ((k : ℕ) → k < i → Satisfies p C (equation G k (f k)) β)
    unfolding table_after filed
    filed-table zero kept β = (
      (λ s k l. absurd (not-suc-le-zero l)),
      (λ h q l. satisfies-zero p C β (cells C (table_after G f 0) q) (λ j k. sym (zeros-read C q j))),
    )
    filed-table (suc i) kept β =
        let s = filed-table i (λ k l. kept k (le_step l)) β in
        let both = stored-solves p C within.prime (table_after G f i) (equation G i (f i)) (ready i).reduced (residues i) (kept i (lt-suc_self i)) β in (
          (λ t k l. elim (ℕ_discrete k i) [
            | yes e ↦ rw e (both.0 t).1
            | no d ↦ s.0 (both.0 t).0 k (omega arith)
          ]),
          (λ h. both.1 (s.1 (λ k l. h k (le_step l)), h i (lt-suc_self i))),
        )

    reads : (i q j : ℕ) → q < C → j ≤ C → cells C (table_after G f (suc i)) q j ≡ after p C (cells C (table_after G f i)) (equation G i (f i)) q j
    unfolding table_after filed
    reads i = stored-reads p C within.prime (table_after G f i) (equation G i (f i)) (ready i).reduced (residues i)

  zeros-satisfy : (i : ℕ) → Satisfies p C (equation G i 0) zeros
  zeros-satisfy i = ap (λ (n : ℕ). n % p) (sum-none (λ j. equation G i 0 j * 0) C (λ j l. mul-zero (equation G i 0 j)) ∙ sym (right-hand G i 0))

  zeros-kept : (n k : ℕ) → k < n → outcome_at G zeros k ≢ contradiction
  zeros-kept zero k l h = not-suc-le-zero l
  zeros-kept (suc n) k l h = elim (ℕ_discrete k n) [
    | yes e ↦
        no-solution p C within.prime (cells C (table_after G zeros n)) (equation G n 0) (ap (outcome_at G zeros) (sym e) ∙ h) zeros
        ((filed-table zeros (λ i. pos) n (zeros-kept n) zeros).1 (λ i b. zeros-satisfy i)) (zeros-satisfy n)
    | no d ↦ zeros-kept n k (omega arith) h
  ]

  module _ (f : ℕ → ℕ) (small : (i : ℕ) → f i < G.numbers.p) where
    -- the coefficients of an entry are the same with any value
    alike : (i j : ℕ) → j < C → equation G i (f i) j ≡ equation G i 0 j
    alike i j l = coefficient G i (f i) j l ∙ sym (coefficient G i 0 j l)

    same-coefficients : (i q j : ℕ) → q < C → j < C → cells C (table_after G f i) q j ≡ cells C (table_after G zeros i) q j
    unfolding table_after
    same-coefficients zero q j l k = refl
    same-coefficients (suc i) q j l k =
        reads f small i q j l (le_of_lt k)
        ∙ after-ext p C C (le_refl C) (cells C (table_after G f i)) (cells C (table_after G zeros i)) (same-coefficients i) (equation G i (f i)) (equation G i 0) (alike i) q j l k
        ∙ sym (reads zeros (λ i. pos) i q j l (le_of_lt k))

    pub new-same : (i : ℕ) → is_new (outcome_at G f i) ≡ is_new (outcome_at G zeros i)
    new-same i =
        new-ext p C C (le_refl C) (cells C (table_after G f i)) (cells C (table_after G zeros i)) (same-coefficients i) (equation G i (f i)) (equation G i 0) (alike i)

    kept : (i : ℕ) → is_new (outcome_at G zeros i) ≡ true → outcome_at G f i ≢ contradiction
    kept i h e = true≢false (sym (new-same i ∙ h) ∙ ap is_new e)

    pub table-solved : (n : ℕ) → ((k : ℕ) → k < n → is_new (outcome_at G zeros k) ≡ true)
        → let β = solution C (cells C (table_after G f n)) in (i : ℕ) → i < n → Reproduces G β i (f i)
    table-solved n news i l =
        let S = cells C (table_after G f n) in
        (satisfies-exactly G i (f i) (solution C S)).0
        ((filed-table f small n (λ k b. kept k (news k b)) (at (solution C S))).0 (solution-solves p C S (ready f small n).reduced) i l)

  pub new-reached : (i : ℕ) (β : List ℕ) → ((k : ℕ) → k < i → Reproduces G β k 0) → (Reproduces G β i 0 → ⊥) → is_new (outcome_at G zeros i) ≡ true
  new-reached i β before here = only (outcome_at G zeros i) refl
    where
      solved : Solves p C (cells C (table_after G zeros i)) (at β)
      solved = (filed-table zeros (λ k. pos) i (zeros-kept i) (at β)).1 (λ k l. (satisfies-exactly G k 0 β).1 (before k l))

      only : (o : Outcome) → outcome_at G zeros i ≡ o → is_new o ≡ true
      only (new c) e = refl
      only implied e = absurd (here ((satisfies-exactly G i 0 β).0 (implied-satisfies p C (cells C (table_after G zeros i)) (equation G i 0) e (at β) solved)))
      only contradiction e = absurd (zeros-kept (suc i) i (lt-suc_self i) e)
