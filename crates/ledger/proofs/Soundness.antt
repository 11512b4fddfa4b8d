-- Cause 16, as the code tells it: a list in range without an entry twice is filed on an empty store, and the outcome is compared.
--     unsound         a list that is not in range, or that has an entry twice
--     sound-told      of any other list, whether none of it is a contradiction, and the outcome is the store, as the code tells it
--     sound-ranged    a sound list is in range
--     value-at        the value of a listed entry stands at its place
--     value-pair      it is the second number of the pair there
-- Assumes nothing.
use mathlib.Core.Path.{◌≡◌, refl, sym, ap, ◌∙◌}
use mathlib.Core.Bool.{Bool, true, false, ◌&&◌, true≢false, false≢true}
use mathlib.Core.List.{List, [], ◌∷◌}
use Prim.Native.Nat.{ℕ, zero, suc, ◌+◌, ◌*◌}
use native.Mathlib.Decide.{ℕ_discrete}
use native.Mathlib.Omega.{arith}
use lib.ListN.{get_or}
use borrow.Author.Tests.{eq-eqb, ne_eqb}
use Rattle.lists.specs.Places.{at, same}
use Rattle.lists.proofs.Tests.{both_true}
use Rattle.plan.specs.Numbers.{product}
use Rattle.plan.specs.Parts.{Given}
use Rattle.store.specs.Calls.{empty_store}
use Rattle.ledger.specs.Lists.{Pair, has, distinct, place_of, value_of, without, filed_on, accepts, sound}
use Rattle.ledger.specs.Stages.{pairs_from, pairs, as_pairs, ranged, consistent}
use Rattle.ledger.proofs.Orders.{none-skipped, accepts-exactly}

module _ (G : Given) (S : List ℕ) (l : List Pair) where
  abbrev E : List ℕ
  E = empty_store G.numbers

  abbrev in_range : Bool
  in_range = ranged (product G.radices) G.numbers.s l

  pub unsound : (in_range && distinct l) ≡ false → false ≡ sound G S l
  unfolding sound
  unsound h = rw (accepts-exactly G E l) (by in_range (distinct l) (consistent G E l) _ h)
    where
      by : (r d c m : Bool) → (r && d) ≡ false → false ≡ (d && ((r && c) && m))
      by true true c m h = absurd (true≢false h)
      by r false c m h = refl
      by false true c m h = refl

  sound-is : (in_range && distinct l) ≡ true → sound G S l ≡ (consistent G E l && same S (filed_on G E l))
  unfolding sound
  sound-is h = rw (accepts-exactly G E l) (by in_range (distinct l) (consistent G E l) (same S (filed_on G E l)) h)
    where
      by : (r d c m : Bool) → (r && d) ≡ true → (d && ((r && c) && m)) ≡ (c && m)
      by true true c m h = refl
      by true false c m h = absurd (false≢true h)
      by false d c m h = absurd (false≢true h)

  -- as the code tells it, where n is the number of entries, which no entry is
  pub sound-told : (n : ℕ) (fits : Bool) (T : List ℕ) → n ≡ product G.radices → (in_range && distinct l) ≡ true
      → fits ≡ consistent G E (without l n) → T ≡ filed_on G E (without l n) → sound G S l ≡ (fits && same S T)
  sound-told n fits T e h told filed =
      let whole : without l n ≡ l = ap (without l) e ∙ none-skipped (product G.radices) G.numbers.s l (both_true in_range (distinct l) h).0 in
      rw (told, filed, whole) (sound-is h)

  pub sound-ranged : sound G S l ≡ true → in_range ≡ true
  unfolding sound
  sound-ranged h =
      let a = both_true (distinct l) (accepts G E l && same S (filed_on G E l)) h in
      let b = both_true (accepts G E l) (same S (filed_on G E l)) a.1 in
      (both_true in_range (consistent G E l) (sym (accepts-exactly G E l) ∙ b.0)).0

-- the value of an entry
value-from : (k j : ℕ) (list : List ℕ) (i : ℕ) → has (pairs_from k j list) i ≡ true
    → at list (2 * (j + place_of (pairs_from k j list) i) + 1) ≡ value_of (pairs_from k j list) i
unfolding pairs_from has place_of value_of
value-from zero j list i h = absurd (false≢true h)
value-from (suc k) j list i h = elim (ℕ_discrete (at list (2 * j)) i) [
  | yes e ↦ rw (eq-eqb (at list (2 * j)) i e) (let same : 2 * (j + 0) + 1 ≡ 2 * j + 1 = omega arith in ap (at list) same)
  | no d ↦
      let next : 2 * (j + suc (place_of (pairs_from k (j + 1) list) i)) + 1 ≡ 2 * (j + 1 + place_of (pairs_from k (j + 1) list) i) + 1 = omega arith in
      rw (ne_eqb (at list (2 * j)) i d) (ap (at list) next ∙ value-from k (j + 1) list i (rw (ne_eqb (at list (2 * j)) i d) at h))
]

pub value-at : (count : ℕ) (list : List ℕ) (i : ℕ) → has (pairs count list) i ≡ true
    → at list (2 * place_of (pairs count list) i + 1) ≡ value_of (pairs count list) i
value-at count list i h =
    let e : 2 * place_of (pairs count list) i + 1 ≡ 2 * (0 + place_of (pairs count list) i) + 1 = omega arith in
    ap (at list) e ∙ value-from count 0 list i h

pub value-pair : (xs : List (List ℕ)) (i : ℕ) → has (as_pairs xs) i ≡ true → at (get_or xs (place_of (as_pairs xs) i) []) 1 ≡ value_of (as_pairs xs) i
unfolding has place_of value_of
value-pair [] i h = absurd (false≢true h)
value-pair (x ∷ xs) i h = elim (ℕ_discrete (at x 0) i) [
  | yes e ↦ rw (eq-eqb (at x 0) i e) refl
  | no d ↦ rw (ne_eqb (at x 0) i d) (value-pair xs i (rw (ne_eqb (at x 0) i d) at h))
]
