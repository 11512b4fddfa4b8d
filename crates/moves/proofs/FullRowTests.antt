-- What `full_took` comes to in the code, by what stands on a row's diagonal: `RowTests` of `store` for the part from there on, with what lies left of it.
--     full-none       with nothing there the row is sound when it is all zero, with residues above
--     full-pivot      with something there, when that is a 1, with nothing above and nothing left
-- Assumes nothing.
use mathlib.Core.Path.{◌≡◌, refl, sym, ap, ◌∙◌}
use mathlib.Core.Bool.{Bool, true, false, ◌&&◌}
use mathlib.Core.Logic.{◌≢◌}
use mathlib.Core.List.{List}
use Prim.Native.Nat.{ℕ, ◌-◌, ◌<◌}
use native.Mathlib.Nat.{add-zero}
use native.Mathlib.Omega.{arith}
use lib.Dec.{eqb, ltb}
use lib.ListN.{length, take, drop, length-drop, take-append-drop}
use lib.Seq.{take_all, get_or-drop}
use Rattle.lists.specs.Places.{at}
use Rattle.field.specs.Rows.{all_below, maxima}
use Rattle.field.proofs.Ranges.{below-append}
use Rattle.store.specs.Reading.{state_of, counted}
use Rattle.store.proofs.RowTests.{took-none, took-pivot}
use Rattle.moves.specs.FullRows.{full_took}

whole : (left right low sound : Bool) → ((left && right) && (low && sound)) ≡ (right && (low && (left && sound)))
whole true true true sound = refl
whole true true false sound = refl
whole true false low sound = refl
whole false true true sound = refl
whole false true false sound = refl
whole false false low sound = refl

first : (left none one sound : Bool) → (left && (none && (one && sound))) ≡ (none && (one && (left && sound)))
first true none one sound = refl
first false true true sound = refl
first false true false sound = refl
first false false one sound = refl

module _ (p q : ℕ) (sound r : Bool) (tops new row : List ℕ) where
  diagonal : at (drop q row) 0 ≡ at row q
  diagonal = get_or-drop q row 0 0 ∙ ap (at row) (add-zero q)

  pub full-none : at row q ≡ 0 → new ≡ tops → r ≡ (all_below 1 row && (ltb (at tops 0) p && sound))
      → (state_of r (drop 1 new) ≡ full_took p q (state_of sound tops) row) × (new ≡ counted tops (drop q row))
  full-none z same e =
      took-none p (all_below 1 (take q row) && sound) r tops new (drop q row) (diagonal ∙ z) same
      (e
      ∙ ap (λ (t : Bool). t && (ltb (at tops 0) p && sound))
      (ap (all_below 1) (sym (take-append-drop q row)) ∙ below-append 1 (take q row) (drop q row))
      ∙ whole (all_below 1 (take q row)) (all_below 1 (drop q row)) (ltb (at tops 0) p) sound)

  pub full-pivot : q < length row → at row q ≢ 0 → new ≡ maxima tops (take (length row - q) (drop q row))
      → r ≡ (all_below 1 (take q row) && (eqb (at tops 0) 0 && (eqb (at row q) 1 && sound)))
      → (state_of r (drop 1 new) ≡ full_took p q (state_of sound tops) row) × (new ≡ counted tops (drop q row))
  full-pivot l d raised e =
      took-pivot p (all_below 1 (take q row) && sound) r tops new (drop q row) (omega (arith, length-drop q row)) (λ z. d (sym diagonal ∙ z))
      (raised ∙ ap (maxima tops) (take_all (length row - q) (drop q row) (omega (arith, length-drop q row))))
      (e
      ∙ first (all_below 1 (take q row)) (eqb (at tops 0) 0) (eqb (at row q) 1) sound
      ∙ ap (λ (x : ℕ). eqb (at tops 0) 0 && (eqb x 1 && (all_below 1 (take q row) && sound))) (sym diagonal))
