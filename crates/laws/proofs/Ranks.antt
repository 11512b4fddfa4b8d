-- Stores under a plan: how many of the filings that made one were New is the number of its pivots, which is at most `most_new`.
--     Ranked G S k       S is a store under the plan G after k filings that were New, whatever else was filed
--     ranked-empty       the empty store, after none
--     entry-obeys        an entry's row obeys every relation, whatever its value: by Equation 1
--     ranked-filed       one filing more
--     ranked-most        k is at most `most_new`
-- Assumes nothing.
use mathlib.Core.Path.{◌≡◌, refl, sym, ap, ◌∙◌}
use mathlib.Core.Bool.{cond}
use mathlib.Core.List.{List}
use Prim.Native.Nat.{ℕ, ◌+◌, ◌≤◌, ◌<◌}
use native.Mathlib.Nat.{le_of_lt}
use native.Mathlib.Decide.{dec_lt}
use native.Mathlib.Omega.{arith}
use lib.Dec.{ltb}
use Rattle.lists.specs.Places.{at}
use Rattle.lists.proofs.Sums.{sum-ext, sum-none}
use Rattle.plan.specs.Numbers.{columns, Within}
use Rattle.plan.specs.Parts.{Given, Lent}
use Rattle.plan.specs.Rows.{values}
use Rattle.plan.proofs.Reproduction.{row-times}
use Rattle.store.specs.Elimination.{after, cells}
use Rattle.store.specs.Stages.{Ready}
use Rattle.store.specs.Calls.{equation, empty_store, outcome_of, filed}
use Rattle.store.proofs.Combinations.{satisfies-ext, satisfies-zero}
use Rattle.store.proofs.Filing.{Equation, stored-reads}
use Rattle.store.proofs.EntryEquations.{coefficient, right-hand, equation-residues, satisfies-exactly}
use Rattle.store.proofs.Holding.{zeros-read}
use Rattle.store.proofs.Readiness.{empty-ready, filed-ready}
use Rattle.laws.specs.Rank.{most_new}
use Rattle.laws.proofs.Pivots.{mark, mark-zero, pivots, newly, pivots-after}
use Rattle.laws.proofs.Relations.{level, level-below, level-last, Obeys, obeys-after}
use Rattle.laws.proofs.WastedColumns.{Relation}
use Rattle.laws.proofs.RankBound.{pivots-bound}

pub record Ranked (G : Given) (S : List ℕ) (k : ℕ) : Type 0 where
  pub ready : Ready G.numbers.p (columns G.numbers) S
  pub obeys : (γ : List ℕ) → Relation G.numbers G.products γ → (q : ℕ) → q < columns G.numbers
      → Obeys G.numbers.p (columns G.numbers) (at γ) (cells (columns G.numbers) S q)
  pub count : pivots (columns G.numbers) (cells (columns G.numbers) S) ≡ k

module _ (G : Given) (within : Within G.numbers) where
  abbrev p : ℕ
  p = G.numbers.p

  abbrev C : ℕ
  C = columns G.numbers

  pub ranked-empty : Ranked G (empty_store G.numbers) 0
  unfolding pivots
  ranked-empty =
      record {
        ready = empty-ready G.numbers within;
        obeys = λ γ r q l. satisfies-zero p C (at γ) _ (λ j k. elim (dec_lt j C) [
          | yes i ↦ level-below C _ j i ∙ sym (zeros-read C q j)
          | no i ↦ let last : j ≡ C = omega arith in rw last (level-last C _)
        ]);
        count = sum-none _ C (λ q l. mark-zero _ (sym (zeros-read C q q)));
      }

  module _ (lent : Lent G) (S : List ℕ) (k i v : ℕ) (small : v < G.numbers.p) (h : Ranked G S k) where
    e : ℕ → ℕ
    e = equation G i v

    T : ℕ → ℕ → ℕ
    T = after p C (cells C S) e

    residues : Equation p C e
    unfolding e
    residues = equation-residues G i v within lent small

    reads : (q j : ℕ) → q < C → j ≤ C → cells C (filed G S i v) q j ≡ T q j
    unfolding filed T e
    reads = stored-reads p C within.prime S e h.ready.reduced residues

    entry-obeys : (γ : List ℕ) → Relation G.numbers G.products γ → Obeys p C (at γ) e
    unfolding e
    entry-obeys γ r =
        satisfies-ext p C (equation G i 0) (level C e) (at γ) (at γ)
        (λ j l. elim (dec_lt j C) [
          | yes a ↦ coefficient G i 0 j a ∙ sym (level-below C e j a ∙ coefficient G i v j a)
          | no a ↦ let last : j ≡ C = omega arith in rw last (right-hand G i 0 ∙ sym (level-last C e))
        ])
        (λ j l. refl)
        ((satisfies-exactly G i 0 γ).1 (row-times G γ i ∙ r (values G i)))

    pub ranked-filed : Ranked G (filed G S i v) (k + newly (outcome_of G S i v))
    unfolding T e pivots level
    ranked-filed =
        record {
          ready = filed-ready G S i v within lent small h.ready;
          obeys = λ γ r q l.
              satisfies-ext p C (level C (T q)) (level C (cells C (filed G S i v) q)) (at γ) (at γ)
              (λ j a. ap (λ (n : ℕ). cond (ltb j C) n 0) (sym (reads q j l a))) (λ j a. refl)
              (obeys-after p C (at γ) (cells C S) e (h.obeys γ r) (entry-obeys γ r) q l);
          count =
              sum-ext (λ q. mark (cells C (filed G S i v) q q)) (λ q. mark (T q q)) C (λ q l. ap mark (reads q q l (le_of_lt l)))
              ∙ pivots-after p C within.prime (cells C S) e h.ready.reduced residues
              ∙ ap (λ (n : ℕ). n + newly (outcome_of G S i v)) h.count;
        }

  pub ranked-most : Lent G → (S : List ℕ) (k : ℕ) → Ranked G S k → k ≤ most_new G.numbers
  ranked-most lent S k h =
      rw (sym h.count) (pivots-bound G.numbers G.products within.prime lent.products-residues (cells C S) h.ready.reduced h.obeys)
