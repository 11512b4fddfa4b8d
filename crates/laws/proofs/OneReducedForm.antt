-- 01, "The store": after a filing that is no contradiction the store is the one reduced form that spans the same equations as the old store
-- and the entry (`OneReduced` of specs/Span).
--     one-reduced-form      for a store that is ready, and a value below s
--     filed-one             for any call of filing that is not refused
-- Two stores that span those equations have the same solutions, so they are the same (`Uniqueness`).
-- Assumes nothing.
use mathlib.Core.Path.{◌≡◌, sym, ap, ◌∙◌}
use mathlib.Core.Bool.{false, true≢false}
use mathlib.Core.Logic.Iff
use mathlib.Core.Logic.{◌↔◌}
use mathlib.Core.List.{List}
use Prim.Native.Nat.{ℕ, ◌+◌, ◌≤◌, ◌<◌}
use native.Mathlib.Omega.{arith}
use Rattle.plan.specs.Causes.{first}
use Rattle.plan.specs.Numbers.{columns, Within}
use Rattle.plan.specs.Parts.{Given, Lent}
use Rattle.lists.specs.Places.{at}
use Rattle.store.specs.Elimination.{Satisfies, Solves, after, cells}
use Rattle.store.specs.Filings.{is_contradiction}
use Rattle.store.specs.Stages.{Ready}
use Rattle.store.specs.Calls.{equation, outcome_of, file_causes, filed}
use Rattle.store.specs.Span.{with_row, Spans, OneReduced}
use Rattle.store.proofs.Filing.{stored-reads}
use Rattle.laws.proofs.Uniqueness.{stores-equal}
use Rattle.laws.proofs.Spans.{span-solutions, span_ext}
use Rattle.laws.proofs.FilingSpans.{after-span}
use Rattle.store.proofs.EntryEquations.{equation-residues}
use Rattle.store.proofs.Readiness.{filed-ready, unmet}

module _ (G : Given) (S : List ℕ) (i v : ℕ) where
  pub one-reduced-form : Within G.numbers → Lent G → Ready G.numbers.p (columns G.numbers) S → v < G.numbers.s
      → is_contradiction (outcome_of G S i v) ≡ false → OneReduced G S i v
  unfolding filed
  one-reduced-form within lent ready below kept =
      record {
        spans = spans;
        one = λ S' h.
            stores-equal p C within.prime S' (filed G S i v) h.places spans.places h.reduced spans.reduced
            (λ β n r. Iff.trans (solutions S' h (at β)) (Iff.symm (solutions (filed G S i v) spans (at β))));
      }
    where
      p : ℕ
      p = G.numbers.p

      C : ℕ
      C = columns G.numbers

      e : ℕ → ℕ
      e = equation G i v

      small : v < G.numbers.p
      small = omega (arith, within.value-high)

      residues : (j : ℕ) → j ≤ C → e j < p
      residues = equation-residues G i v within lent small

      spans : Spans G S i v (filed G S i v)
      spans =
          let after-ready = filed-ready G S i v within lent small ready in
          record {
            places = after-ready.places;
            reduced = after-ready.reduced;
            span = span_ext p C (after p C (cells C S) e) C (with_row C (cells C S) e) (C + 1) (cells C (filed G S i v))
                (stored-reads p C within.prime S e ready.reduced residues)
                (after-span p C within.prime (cells C S) e ready.reduced residues (λ h. true≢false (sym (ap is_contradiction h) ∙ kept)));
          }

      solutions : (S' : List ℕ) → Spans G S i v S' → (β : ℕ → ℕ)
          → Solves p C (cells C S') β ↔ ((q : ℕ) → q < C + 1 → Satisfies p C (with_row C (cells C S) e q) β)
      solutions S' h = span-solutions p C (cells C S') C (with_row C (cells C S) e) (C + 1) h.span

  pub filed-one : first (file_causes G S i v) ≡ 0 → OneReduced G S i v
  filed-one e = let u = unmet G S i v e in one-reduced-form u.within u.lent u.ready u.below u.kept
