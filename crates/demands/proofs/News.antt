-- However entries are filed from an empty store under an accepted plan, at most `most_new` of the calls are answered New.
--     new-most      the theorem, over every list of filings
-- A call that is kept leaves a store of rank k, or k + 1 where it was New (`Ranks` of `laws`); any other leaves the store. Assumes nothing.
use mathlib.Core.Path.{◌≡◌, refl}
use mathlib.Core.Bool.{cond}
use mathlib.Core.List.{List, [], ◌∷◌}
use Prim.Native.Nat.{ℕ, zero, suc, ◌+◌, ◌≤◌, ◌<◌}
use native.Mathlib.Nat.{add-zero}
use native.Mathlib.Omega.{arith}
use Rattle.plan.specs.Causes as causes
use Rattle.plan.specs.Causes.{first, leaves, gives}
use Rattle.plan.specs.Parts.{Given}
use Rattle.store.specs.Elimination.{Outcome, new, implied, contradiction}
use Rattle.store.specs.Filings.{is_new}
use Rattle.store.specs.Calls.{outcome_of, file_causes, values_of, filed}
use Rattle.store.proofs.Readiness.{unmet}
use Rattle.laws.specs.Rank.{most_new}
use Rattle.laws.proofs.Ranks.{Ranked, ranked-empty, ranked-filed, ranked-most}
use Rattle.general.specs.Suits.{says_new}
use Rattle.demands.specs.Demand3.{Accepted, Filing, ours, other, call, refusal, answer, store_after, empty_store}
use Rattle.demands.specs.General.{new_of}
use Rattle.demands.proofs.Turns.{within, lent}

-- of an outcome, New is told from the values that it gives
new-given : (o : Outcome) → says_new (gives (values_of o)) ≡ is_new o
new-given (new c) = refl
new-given implied = refl
new-given contradiction = refl

module _ (G : Given) (accepted : Accepted G) where
  -- one call, from a store of rank k
  ranked-call : (S : List ℕ) (k i v : ℕ) → Ranked G S k
      → Ranked G (store_after (call G S i v)) (k + cond (says_new (answer (call G S i v))) 1 0)
  unfolding refusal answer store_after
  ranked-call S k i v h = turn (first (file_causes G S i v)) (λ e. (unmet G S i v e).below)
    where
      o : Outcome
      o = outcome_of G S i v

      turn : (F : ℕ) → (F ≡ 0 → v < G.numbers.s) → Ranked G (leaves F (filed G S i v) S) (k + cond (says_new (causes.answer F (values_of o))) 1 0)
      turn zero below =
          let small : v < G.numbers.p = omega (arith, below refl, (within G accepted).value-high) in
          rw (new-given o) (ranked-filed G (within G accepted) (lent G accepted) S k i v small h)
      turn (suc F) below = rw (add-zero k) h

  ranked-list : (fs : List Filing) (S : List ℕ) (k : ℕ) → Ranked G S k → k + new_of G S fs ≤ most_new G.numbers
  unfolding new_of
  ranked-list [] S k h = omega (arith, ranked-most G (within G accepted) (lent G accepted) S k h)
  ranked-list (ours i v ∷ fs) S k h =
      omega (arith, ranked-list fs (store_after (call G S i v)) (k + cond (says_new (answer (call G S i v))) 1 0) (ranked-call S k i v h))
  ranked-list (other c ∷ fs) S k h = ranked-list fs S k h

  pub new-most : (fs : List Filing) → new_of G (empty_store G) fs ≤ most_new G.numbers
  new-most fs = omega (arith, ranked-list fs (empty_store G) 0 (ranked-empty G (within G accepted)))
