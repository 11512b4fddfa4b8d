-- What `took` comes to in the code, by what stands on a row's diagonal.
--     took-none          with nothing there: no column is counted, and the row is sound when it is all zero, with residues above
--     took-pivot         with something there: its columns are counted, and it is sound when that is a 1, with nothing above
--     counted-length     a row leaves as many columns as there were
-- Assumes nothing.
use mathlib.Core.Path.{◌≡◌, refl, sym, ap, ap₂, ◌∙◌}
use mathlib.Core.Bool.{Bool, true, false, cond, ◌&&◌, and-false}
use mathlib.Core.Logic.{◌≢◌}
use mathlib.Core.List.{List}
use Prim.Native.Nat.{ℕ, ◌≤◌, ◌<◌, max}
use native.Mathlib.Decide.{ℕ_discrete}
use native.Mathlib.Omega.{arith}
use lib.Dec.{eqb, ltb}
use lib.ListN.{length, drop}
use borrow.Author.Tests.{eq-eqb, ne_eqb}
use Rattle.lists.specs.Places.{at}
use Rattle.lists.proofs.Tests.{and_assoc}
use Rattle.lists.proofs.Tabs.{tab-length}
use Rattle.field.specs.Rows.{all_below, maxima}
use Rattle.field.proofs.Ranges.{below_none}
use Rattle.store.specs.Reading.{state_of, row_sound, counted, took}

-- `new` and `r` are the columns and the verdict that come out
module _ (p : ℕ) (sound r : Bool) (tops new row : List ℕ) where
  tells : (a b : Bool) → new ≡ counted tops row → row_sound p (at tops 0) row ≡ (a && b) → r ≡ (a && (b && sound))
      → (state_of r (drop 1 new) ≡ took p (state_of sound tops) row) × (new ≡ counted tops row)
  tells a b columns verdict e = (ap₂ state_of (e ∙ sym (and_assoc a b sound) ∙ ap (λ (t : Bool). t && sound) (sym verdict)) (ap (drop 1) columns), columns)

  pub took-none : at row 0 ≡ 0 → new ≡ tops → r ≡ (all_below 1 row && (ltb (at tops 0) p && sound))
      → (state_of r (drop 1 new) ≡ took p (state_of sound tops) row) × (new ≡ counted tops row)
  unfolding counted row_sound
  took-none z same = tells (all_below 1 row) (ltb (at tops 0) p) (same ∙ rw z) (rw z (split (all_below 1 row) (ltb (at tops 0) p) (eqb (at tops 0) 0)))
    where
      split : (zero a x : Bool) → cond zero a (x && false) ≡ (zero && a)
      split true a x = refl
      split false a x = and-false x

  pub took-pivot : 0 < length row → at row 0 ≢ 0 → new ≡ maxima tops row → r ≡ (eqb (at tops 0) 0 && (eqb (at row 0) 1 && sound))
      → (state_of r (drop 1 new) ≡ took p (state_of sound tops) row) × (new ≡ counted tops row)
  unfolding counted row_sound
  took-pivot l d raised =
      let some : 1 ≤ at row 0 = omega arith in
      tells (eqb (at tops 0) 0) (eqb (at row 0) 1) (raised ∙ rw (ne_eqb (at row 0) 0 d)) (rw (below_none 1 row 0 l some))

pub counted-length : (tops row : List ℕ) → length (counted tops row) ≡ length tops
unfolding counted
counted-length tops row = elim (ℕ_discrete (at row 0) 0) [
  | yes z ↦ rw (eq-eqb (at row 0) 0 z)
  | no d ↦ rw (ne_eqb (at row 0) 0 d) (tab-length (length tops) (λ j. max (at tops j) (at row j)))
]
