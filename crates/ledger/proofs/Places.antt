-- The place of an entry in a list of pairs.
--     place-below     an entry is listed exactly when its place is in the list
--     has-below       the same as a test
--     listed_at       the place, where the entry is listed
--     place_some, place_none      what it says of an entry that its place is some, or none
-- Assumes nothing.
use mathlib.Core.Path.{◌≡◌, refl, sym, ap}
use mathlib.Core.Bool.{Bool, true, false, cond, true≢false, false≢true}
use mathlib.Core.List.{List, [], ◌∷◌}
use Prim.Native.Nat.{ℕ, suc, ◌<◌}
use native.Mathlib.Decide.{ℕ_discrete}
use native.Mathlib.Omega.{arith}
use lib.Dec.{ltb}
use lib.ListN.{length}
use borrow.Author.Tests.{eq-eqb, ne_eqb, lt-ltb, le-ltb}
use Rattle.std.specs.Prelude.{Option, Some, None, is_some}
use Rattle.ledger.specs.Lists.{Pair, has, place_of}

pub place-below : (l : List Pair) (i : ℕ) → (has l i ≡ true → place_of l i < length l) × (has l i ≡ false → place_of l i ≡ length l)
unfolding has place_of
place-below [] i = ((λ h. absurd (false≢true h)), (λ _. refl))
place-below (x ∷ l) i = elim (ℕ_discrete x.0 i) [
  | yes e ↦ rw (eq-eqb x.0 i e) ((λ _. omega arith), (λ h. absurd (true≢false h)))
  | no d ↦ rw (ne_eqb x.0 i d) ((λ h. omega (arith, (place-below l i).0 h)), (λ h. ap suc ((place-below l i).1 h)))
]

pub has-below : (l : List Pair) (i : ℕ) → has l i ≡ ltb (place_of l i) (length l)
has-below l i = by (has l i) refl
  where
    by : (b : Bool) → has l i ≡ b → b ≡ ltb (place_of l i) (length l)
    by true e = sym (lt-ltb _ _ ((place-below l i).0 e))
    by false e = sym (le-ltb _ _ (omega (arith, (place-below l i).1 e)))

-- as the code tells it
abbrev pub listed_at : List Pair → ℕ → Option ℕ
listed_at l i = cond (has l i) (Some (place_of l i)) None

abbrev place-or : Option ℕ → ℕ
place-or (Some k) = k
place-or None = 0

pub place_some : (l : List Pair) (i k : ℕ) → Some k ≡ listed_at l i → (has l i ≡ true) × (k ≡ place_of l i)
place_some l i k e = by (has l i) e
  where
    by : (b : Bool) → Some k ≡ cond b (Some (place_of l i)) None → (b ≡ true) × (k ≡ place_of l i)
    by true e = (refl, ap place-or e)
    by false e = absurd (true≢false (ap is_some e))

pub place_none : (l : List Pair) (i : ℕ) → None ≡ listed_at l i → has l i ≡ false
place_none l i e = by (has l i) e
  where
    by : (b : Bool) → None ≡ cond b (Some (place_of l i)) None → b ≡ false
    by true e = absurd (false≢true (ap is_some e))
    by false e = refl
