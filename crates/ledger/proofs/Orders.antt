-- Filing a list in order without one entry, pair by pair.
--     left_out, put_in             a pair of the entry that is left out, and any other
--     kept-told                    an entry is filed exactly where it is no contradiction
--     Refiling                     the state of the loop: the store is ready, and filing what is left gives what filing all gives
--     refiling-start, refiling-next, refiling-end      before the first pair, after one more, and after the last
--     none-skipped                 of a list in range nothing is left out by an entry that is not in range
--     accepts-exactly              no pair is refused exactly when each is in range and none is a contradiction
-- Assumes nothing.
use mathlib.Core.Path.{◌≡◌, refl, sym, ap, ◌∙◌}
use mathlib.Core.Bool.{Bool, true, false, not, ◌&&◌, and-false, and-true}
use mathlib.Core.List.{List, [], ◌∷◌}
use mathlib.Core.Logic.{◌≢◌}
use Prim.Native.Nat.{ℕ, ◌<◌}
use native.Mathlib.Decide.{ℕ_discrete}
use native.Mathlib.Omega.{arith}
use lib.Dec.{eqb, ltb}
use borrow.Author.Tests.{eq-eqb, ne_eqb, ltb-true}
use Rattle.lists.proofs.Tests.{both_true}
use Rattle.std.specs.Prelude.{Result, Ok, Err, is_ok}
use Rattle.plan.specs.Causes.{first, Answer, gives, refuses}
use Rattle.plan.specs.declared.refusal.Refusal.{Refusal}
use Rattle.plan.specs.Numbers.{columns, product, Within}
use Rattle.plan.specs.Parts.{Given, Lent}
use Rattle.store.specs.Elimination.{Outcome, new, implied, contradiction}
use Rattle.store.specs.Filings.{is_contradiction}
use Rattle.store.specs.Stages.{Ready}
use Rattle.store.specs.Calls.{empty_store, outcome_of, answer_of, answered, filed}
use Rattle.store.specs.declared.elimination.Filed.{Filed}
use Rattle.store.proofs.Readiness.{empty-ready, filed-ready}
use Rattle.ledger.specs.Lists.{Pair, without, filed_on, accepts}
use Rattle.ledger.specs.Stages.{ranged, consistent}
use Rattle.ledger.proofs.Rests.{and-regroup}

abbrev is_kept : Answer → Bool
is_kept (gives vs) = true
is_kept (refuses k) = false

pub kept-told : (r : Result Filed Refusal) (o : Outcome) → answer_of r ≡ answered o → is_ok r ≡ not (is_contradiction o)
kept-told r o e = of-result r ∙ ap is_kept e ∙ of-outcome o
  where
    of-result : (r : Result Filed Refusal) → is_ok r ≡ is_kept (answer_of r)
    of-result (Ok f) = refl
    of-result (Err x) = refl

    of-outcome : (o : Outcome) → is_kept (answered o) ≡ not (is_contradiction o)
    of-outcome (new c) = refl
    of-outcome implied = refl
    of-outcome contradiction = refl

module _ (G : Given) (skip : ℕ) (S : List ℕ) (x : Pair) where
  pub left_out : x.0 ≡ skip → (filed_on G S (without (x ∷ []) skip) ≡ S) × (consistent G S (without (x ∷ []) skip) ≡ true)
  unfolding without filed_on consistent
  left_out e = rw (eq-eqb x.0 skip e) (refl, refl)

  pub put_in : x.0 ≢ skip → (filed_on G S (without (x ∷ []) skip) ≡ filed G S x.0 x.1)
      × (consistent G S (without (x ∷ []) skip) ≡ not (is_contradiction (outcome_of G S x.0 x.1)))
  unfolding without filed_on consistent
  put_in d = rw (ne_eqb x.0 skip d) (refl, and-true (not (is_contradiction (outcome_of G S x.0 x.1))))

  -- the first pair apart
  first-apart : (l : List Pair) → let next = filed_on G S (without (x ∷ []) skip) in
      (filed_on G S (without (x ∷ l) skip) ≡ filed_on G next (without l skip))
      × (consistent G S (without (x ∷ l) skip) ≡ (consistent G S (without (x ∷ []) skip) && consistent G next (without l skip)))
  unfolding without filed_on consistent
  first-apart l = elim (ℕ_discrete x.0 skip) [
    | yes e ↦ rw (eq-eqb x.0 skip e) (refl, refl)
    | no d ↦ rw (ne_eqb x.0 skip d, and-true (not (is_contradiction (outcome_of G S x.0 x.1)))) (refl, refl)
  ]

  first-ready : Within G.numbers → Lent G → x.1 < G.numbers.p → Ready G.numbers.p (columns G.numbers) S
      → Ready G.numbers.p (columns G.numbers) (filed_on G S (without (x ∷ []) skip))
  first-ready within lent l ready = elim (ℕ_discrete x.0 skip) [
    | yes e ↦ rw (left_out e).0 ready
    | no d ↦ rw (put_in d).0 (filed-ready G S x.0 x.1 within lent l ready)
  ]

-- S₀ is the store before the first pair of all, S that before the pairs l, which are left
pub record Refiling (G : Given) (skip : ℕ) (S₀ : List ℕ) (all : List Pair) (S : List ℕ) (fits : Bool) (l : List Pair) : Type 0 where
  pub ready : Ready G.numbers.p (columns G.numbers) S
  pub range : ranged (product G.radices) G.numbers.s l ≡ true
  pub reached : filed_on G S₀ (without all skip) ≡ filed_on G S (without l skip)
  pub told : consistent G S₀ (without all skip) ≡ (fits && consistent G S (without l skip))

module _ (G : Given) (fine : Within G.numbers) (lent : Lent G) (skip : ℕ) (all : List Pair) where
  pub refiling-start : ranged (product G.radices) G.numbers.s all ≡ true
      → Refiling G skip (empty_store G.numbers) all (empty_store G.numbers) true all
  refiling-start range = record { ready = empty-ready G.numbers fine; range = range; reached = refl; told = refl }

  module _ (S₀ S : List ℕ) (fits : Bool) (x : Pair) (l : List Pair) (g : Refiling G skip S₀ all S fits (x ∷ l)) where
    pub value-below : x.1 < G.numbers.s
    unfolding ranged
    value-below =
        let here = both_true (ltb x.0 (product G.radices) && ltb x.1 G.numbers.s) (ranged (product G.radices) G.numbers.s l) g.range in
        ltb-true x.1 G.numbers.s (both_true (ltb x.0 (product G.radices)) (ltb x.1 G.numbers.s) here.0).1

    pub refiling-next : (fits' : Bool) → fits' ≡ (fits && consistent G S (without (x ∷ []) skip))
        → Refiling G skip S₀ all (filed_on G S (without (x ∷ []) skip)) fits' l
    unfolding ranged
    refiling-next fits' e =
        record {
          ready = first-ready G skip S x fine lent (omega (arith, value-below, fine.value-high)) g.ready;
          range = (both_true (ltb x.0 (product G.radices) && ltb x.1 G.numbers.s) (ranged (product G.radices) G.numbers.s l) g.range).1;
          reached = g.reached ∙ (first-apart G skip S x l).0;
          told = g.told
              ∙ ap (λ (b : Bool). fits && b) (first-apart G skip S x l).1
              ∙ and-regroup fits (consistent G S (without (x ∷ []) skip)) (consistent G (filed_on G S (without (x ∷ []) skip)) (without l skip))
              ∙ ap (λ (b : Bool). b && consistent G (filed_on G S (without (x ∷ []) skip)) (without l skip)) (sym e);
        }

  pub refiling-end : (S₀ S : List ℕ) (fits : Bool) → Refiling G skip S₀ all S fits []
      → (S ≡ filed_on G S₀ (without all skip)) × (fits ≡ consistent G S₀ (without all skip))
  unfolding without filed_on consistent
  refiling-end S₀ S fits g = (sym g.reached, sym (g.told ∙ and-true fits))

-- a list in range
pub none-skipped : (n s : ℕ) (l : List Pair) → ranged n s l ≡ true → without l n ≡ l
unfolding ranged without
none-skipped n s [] h = refl
none-skipped n s (x ∷ l) h =
    let b = both_true (ltb x.0 n && ltb x.1 s) (ranged n s l) h in
    let near = ltb-true x.0 n (both_true (ltb x.0 n) (ltb x.1 s) b.0).0 in
    rw (ne_eqb x.0 n (λ e. omega (arith, near, e))) (ap (λ (k : List Pair). x ∷ k) (none-skipped n s l b.1))

pub accepts-exactly : (G : Given) (S : List ℕ) (l : List Pair)
    → accepts G S l ≡ (ranged (product G.radices) G.numbers.s l && consistent G S l)
unfolding accepts ranged consistent
accepts-exactly G S [] = refl
accepts-exactly G S (x ∷ l) =
    rw (accepts-exactly G (filed G S x.0 x.1) l)
    (by (ltb x.0 (product G.radices)) (ltb x.1 G.numbers.s) (is_contradiction (outcome_of G S x.0 x.1))
    (ranged (product G.radices) G.numbers.s l) (consistent G (filed G S x.0 x.1) l))
  where
    by : (a b c r d : Bool) → (eqb (first ((7, not a) ∷ (8, not b) ∷ (9, c) ∷ [])) 0 && (r && d)) ≡ (((a && b) && r) && (not c && d))
    by true true true r d = sym (and-false r)
    by true true false r d = refl
    by true false c r d = refl
    by false b c r d = refl
