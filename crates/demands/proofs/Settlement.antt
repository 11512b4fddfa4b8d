-- 02, C-12, after any list of filings, or of filings and withdrawals, under one accepted plan: the store law (`Held`) turns what solves the store into
-- what reproduces the kept entries, and `SettledEntries` of `store` says what the answer means.
--     settles             of any store that holds the kept entries
--     settlement          after a list of filings
--     settlement-with     after a list of filings and withdrawals
-- Assumes nothing.
use mathlib.Core.Path.{◌≡◌, ◌∙◌}
use mathlib.Core.List.{List, [], Memᴰ}
use mathlib.Core.Logic.Iff
use mathlib.Core.Logic.{◌↔◌}
use Prim.Native.Nat.{ℕ, ◌<◌}
use native.Mathlib.Nat.{mod-eq_of_lt}
use native.Mathlib.Omega.{arith}
use lib.ListN.{length}
use borrow.Author.Tests.{eq-eqb, lt-ltb}
use Rattle.lists.specs.Places.{at}
use Rattle.plan.specs.Causes.{first}
use Rattle.plan.specs.Numbers.{columns, product}
use Rattle.plan.specs.Parts.{Given}
use Rattle.plan.specs.declared.admission.Own.TheVariants.{Store}
use Rattle.plan.proofs.Admitting.{accepted-call}
use Rattle.records.specs.declared.Record.{Record}
use Rattle.store.specs.Elimination.{cells}
use Rattle.store.specs.Settled.{Gives, settle_own, settle_causes}
use Rattle.store.proofs.ReducedForm.{is_reduced-means}
use Rattle.store.proofs.EntryEquations.{satisfies-exactly}
use Rattle.store.proofs.SettledEntries.{settled-exactly}
use Rattle.demands.specs.Demand3.{Accepted, Filing, Belongs, empty_store, store_of, kept_of}
use Rattle.demands.specs.Withdrawals.{Change, BelongsWith, filled_of, kept_with, start}
use Rattle.demands.specs.Settlement.{AllGive, Settlement, SettledAfter, SettledWith}
use Rattle.demands.proofs.Turns.{Held, within, held-empty}
use Rattle.demands.proofs.Lists.{held_after}
use Rattle.demands.proofs.Keeping.{keeps-start}
use Rattle.demands.proofs.Demand3With.{keeps-after}

module _ (G : Given) (accepted : Accepted G) (S : List ℕ) (K : List (ℕ × ℕ)) (h : Held G S K) (i : ℕ) where
  -- the coefficients that reproduce the store are those that reproduce the kept entries
  same-coefficients : (v : ℕ) → Gives G S i v ↔ AllGive G K i v
  same-coefficients v = (
    (λ g β l r each. g β l r ((h.solves (at β)).1 (λ j u m. (satisfies-exactly G j u β).1 (each j u m)))),
    (λ g β l r s. g β l r (λ j u m. (satisfies-exactly G j u β).0 ((h.solves (at β)).0 s j u m))),
  )

  unrefused : i < product G.radices → first (settle_causes G S i) ≡ 0
  unrefused near =
      accepted-call G accepted (Store (length S)) (settle_own S i) (eq-eqb _ _ h.size)
      ∙ rw ((is_reduced-means G.numbers.p (columns G.numbers) (cells (columns G.numbers) S)).1 h.reduced, lt-ltb i (product G.radices) near)

  kept-given : (v : ℕ) → Memᴰ (i, v) K → AllGive G K i v
  kept-given v m β l r each =
      let small : v < G.numbers.p = omega (arith, (h.ranges i v m).1, (within G accepted).value-high) in
      each i v m ∙ mod-eq_of_lt small

  pub settles : i < product G.radices → Settlement G S K i
  settles near =
      let s = settled-exactly G S i (unrefused near) in
      record {
        when-forced = λ v. Iff.trans (s.when-forced v) (same-coefficients v);
        when-free = (
          (λ f v g. s.when-free.0 f v ((same-coefficients v).1 g)),
          (λ none. s.when-free.1 (λ v g. none v ((same-coefficients v).0 g))),
        );
        when-kept = λ v m. (s.when-forced v).1 ((same-coefficients v).1 (kept-given v m));
      }

pub settlement : (G : Given) → Accepted G → (fs : List Filing) → Belongs fs → (i : ℕ) → i < product G.radices → SettledAfter G fs i
settlement G accepted fs belongs i near =
    settles G accepted (store_of G (empty_store G) fs) (kept_of G (empty_store G) fs)
    (held_after G accepted fs (empty_store G) [] belongs (held-empty G accepted)) i near

pub settlement-with : (G : Given) → Accepted G → (records : List Record) → length records ≡ product G.radices → (cs : List Change) → BelongsWith G cs
    → (i : ℕ) → i < product G.radices → SettledWith G records cs i
settlement-with G accepted records wide cs belongs i near =
    let F = start G records in
    settles G accepted (filled_of G F cs).store (kept_with G F [] cs)
    (keeps-after G accepted cs F [] belongs (keeps-start G accepted records wide)).held i near
