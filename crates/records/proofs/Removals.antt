-- A record that is put past the end, and one that is removed where there is none: nothing changes.
--     set_past                       a record put past the end
--     removed-there                  a record that is there is removed
--     removed-above, removed-beyond      a place that is not below the count, and a count above the list
-- Assumes nothing.
use mathlib.Core.Path.{◌≡◌, refl, ap}
use mathlib.Core.Bool.{Bool, true, false, cond, ◌&&◌}
use mathlib.Core.List.{List, [], ◌∷◌}
use Prim.Native.Nat.{ℕ, zero, suc, ◌≤◌, ◌<◌}
use native.Mathlib.Omega.{arith}
use lib.Dec.{ltb}
use lib.ListN.{length, set}
use borrow.Author.Tests.{lt-ltb, le-ltb, le-leb, lt-leb}
use Rattle.records.specs.Listed.{removed, removed_at}
use Rattle.records.specs.declared.Record.{Record}

pub set_past : (l : List Record) (i : ℕ) (h : Record) → length l ≤ i → set l i h ≡ l
set_past [] i h far = refl
set_past (y ∷ l) zero h far = absurd (omega (arith, far))
set_past (y ∷ l) (suc i) h far = ap (λ (k : List Record). y ∷ k) (set_past l i h (omega (arith, far)))

module _ (l : List Record) (count k : ℕ) where
  pub removed-there : k < count → count ≤ length l → removed_at l count k ≡ removed l count k
  unfolding removed_at
  removed-there below within = rw (lt-ltb k count below, le-leb count (length l) within) refl

  pub removed-above : count ≤ k → removed_at l count k ≡ l
  unfolding removed_at
  removed-above far = rw (le-ltb k count far) refl

  pub removed-beyond : length l < count → removed_at l count k ≡ l
  unfolding removed_at
  removed-beyond far = by (ltb k count) (lt-leb count (length l) far)
    where
      by : (y : Bool) {w : Bool} → w ≡ false → cond (y && w) (removed l count k) l ≡ l
      by true e = rw e refl
      by false e = refl
