-- The size of a listing: how small the numbers of a written step are, and how many steps there are.
--     small-steps      each number of the written program is below 1,000
--     step_count-length       the number of its steps
--     listing-as       the listing from what is written one after the other
-- Assumes nothing.
use mathlib.Core.Path.{◌≡◌, refl, sym, ap, ap₂, subst, ◌∙◌}
use mathlib.Core.Bool.{Bool, true, false, cond, ◌&&◌}
use mathlib.Core.List.{List, [], ◌∷◌, ◌++◌, append_assoc}
use Prim.Native.Nat.{ℕ, zero, suc, ◌+◌, ◌*◌, ◌/◌, ◌%◌, ◌<◌}
use native.Mathlib.Decide.{dec_lt}
use native.Mathlib.Omega.{arith}
use lib.Dec.{eqb, ltb, leb}
use lib.ListN.{length}
use borrow.Author.Tests.{leb-true, ltb-true, eqb-true}
use Rattle.lists.specs.Places.{every, joined, at}
use Rattle.lists.proofs.Tests.{both_true, every-at}
use Rattle.lists.proofs.Parts.{at-past}
use Rattle.field.specs.Residues.{Residues}
use Rattle.plan.specs.declared.numbers.Plan.{Plan}
use Rattle.plan.specs.Numbers.{Within}
use Rattle.plan.proofs.Bounds.{prime-high}
use Rattle.program.specs.Steps.{kind_of, to_of, from_of, by_of, last_register, good_step, well_formed}
use Rattle.program.specs.Layout.{layout, step_count}
use Rattle.program.proofs.Pieces.{good_at}
use Rattle.program.proofs.Shape.{layout-length, layout-well_formed}
use Rattle.listing.specs.Norm.{worst}
use Rattle.listing.specs.Decimal.{line}
use Rattle.listing.specs.Printed.{figure_names, step_names, step_line, listing}

-- one step's numbers
record Small (kind to from by : ℕ) : Type 0 where
  kind-small : kind < 1000
  to-small : to < 1000
  from-small : from < 1000
  by-small : by < 1000

module _ (P : Plan) (within : Within P) where
  small_by : (kind from by : ℕ) → cond (eqb kind 0) (eqb from 0 && eqb by 0) (cond (eqb kind 1) (ltb by P.p) (leb by (P.m + 1))) ≡ true → by < 1000
  small_by kind from by h = cases (eqb kind 0) (eqb kind 1) h
    where
      cases : (zero? one? : Bool) → cond zero? (eqb from 0 && eqb by 0) (cond one? (ltb by P.p) (leb by (P.m + 1))) ≡ true → by < 1000
      cases true one? h = omega (arith, eqb-true by 0 (both_true (eqb from 0) (eqb by 0) h).1)
      cases false true h = omega (arith, ltb-true by P.p h, prime-high within)
      cases false false h = omega (arith, leb-true by (P.m + 1) h, within.variable-limit)

  small-step : (kind to from by : ℕ) → good_step P kind to from by ≡ true → Small kind to from by
  unfolding good_step
  small-step kind to from by h =
      let a = both_true (leb kind 2 && (leb to (last_register P) && leb from (last_register P))) (cond (eqb kind 0) (eqb from 0 && eqb by 0) (cond (eqb kind 1) (ltb by P.p) (leb by (P.m + 1)))) h in
      let b = both_true (leb kind 2) (leb to (last_register P) && leb from (last_register P)) a.0 in
      let c = both_true (leb to (last_register P)) (leb from (last_register P)) b.1 in
      record {
        kind-small = omega (arith, leb-true kind 2 b.0);
        to-small = omega (arith, leb-true to (last_register P) c.0, within.variable-limit);
        from-small = omega (arith, leb-true from (last_register P) c.1, within.variable-limit);
        by-small = small_by kind from by a.1;
      }

  small_all : (steps : List ℕ) → length steps % 4 ≡ 0 → well_formed P steps ≡ true → (i : ℕ) → at steps i < 1000
  unfolding well_formed
  small_all steps whole h i = elim (dec_lt i (length steps)) [
    | yes l ↦ place (i % 4) refl l
    | no l ↦ let z : at steps i ≡ 0 = at-past steps i (omega arith) in omega (arith, z)
  ]
    where
      step : i < length steps → Small (kind_of steps (i / 4)) (to_of steps (i / 4)) (from_of steps (i / 4)) (by_of steps (i / 4))
      step l =
          small-step (kind_of steps (i / 4)) (to_of steps (i / 4)) (from_of steps (i / 4)) (by_of steps (i / 4))
          (every-at (good_at P steps) (length steps / 4) (both_true (eqb (length steps % 4) 0) (every (good_at P steps) (length steps / 4)) h).1 (i / 4) (omega arith))

      there : (j : ℕ) → at steps j < 1000 → j ≡ i → at steps i < 1000
      there j h e = subst (λ (k : ℕ). at steps k < 1000) e h

      place : (r : ℕ) → i % 4 ≡ r → i < length steps → at steps i < 1000
      place zero e l = there (4 * (i / 4)) (step l).kind-small (omega arith)
      place (suc zero) e l = there (4 * (i / 4) + 1) (step l).to-small (omega arith)
      place (suc (suc zero)) e l = there (4 * (i / 4) + 2) (step l).from-small (omega arith)
      place (suc (suc (suc zero))) e l = there (4 * (i / 4) + 3) (step l).by-small (omega arith)
      place (suc (suc (suc (suc r)))) e l = absurd (omega arith)

pub small-steps : (P : Plan) (w d β steps : List ℕ) → Within P → Residues P.p w → Residues P.p d → Residues P.p β → steps ≡ layout P w d β
    → (i : ℕ) → at steps i < 1000
small-steps P w d β steps within rw' rd rβ e i =
    subst (λ (xs : List ℕ). at xs i < 1000) (sym e)
    (small_all P within (layout P w d β) (rw (layout-length P w d β) (omega arith)) (layout-well_formed P w d β within rw' rd rβ) i)

pub step_count-length : (P : Plan) (w d β steps : List ℕ) → steps ≡ layout P w d β → length steps / 4 ≡ step_count P
step_count-length P w d β steps e = rw (e, layout-length P w d β) (omega arith)

pub listing-as : (P : Plan) (w d β steps : List ℕ) (count norm : ℕ) → steps ≡ layout P w d β → count ≡ step_count P → norm ≡ worst P w d β
    → ((figure_names ++ line ((P.m + 2 * P.t) ∷ count ∷ norm ∷ [])) ++ step_names) ++ joined (step_line steps) (length steps / 4) ≡ listing P w d β
unfolding listing
listing-as P w d β steps count norm e hc hn =
    append_assoc (figure_names ++ line ((P.m + 2 * P.t) ∷ count ∷ norm ∷ [])) step_names (joined (step_line steps) (length steps / 4))
    ∙ append_assoc figure_names (line ((P.m + 2 * P.t) ∷ count ∷ norm ∷ [])) (step_names ++ joined (step_line steps) (length steps / 4))
    ∙ ap₂ (λ (x y : List ℕ). figure_names ++ (x ++ (step_names ++ y)))
    (ap₂ (λ (a b : ℕ). line ((P.m + 2 * P.t) ∷ a ∷ b ∷ [])) hc hn)
    (ap (λ (xs : List ℕ). joined (step_line xs) (length xs / 4)) e)
