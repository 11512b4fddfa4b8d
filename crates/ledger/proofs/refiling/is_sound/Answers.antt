-- `ledger::refiling::is_sound` meets its contract: the tests of the list, the filing of it, and the comparison (`Soundness`). Assumes nothing.
use mathlib.Core.Path.{◌≡◌, refl, sym, ap, ◌∙◌}
use mathlib.Core.Bool.{Bool, ◌&&◌, false≢true}
use mathlib.Core.List.{List, [], ◌∷◌}
use Prim.Native.Nat.{ℕ}
use lib.Dec.{eqb}
use lib.Pointwise.{pointwise}
use Rattle.lists.specs.Places.{same}
use Rattle.lists.proofs.Tests.{both_true}
use Rattle.plan.specs.Lending.{whole}
use Rattle.ledger.specs.Stages.{as_pairs}
use Rattle.ledger.proofs.Soundness.{unsound, sound-told}
use Rattle.ledger.specs.Lists.{sound}
use Rattle.ledger.proofs.refiling.is_sound.Goals.{then-well_listed, else-well_listed}
use Rattle.ledger.proofs.refiling.is_sound.Goals as goal

-- the comparison of bytes
pointwise_same : (xs ys : List ℕ) → pointwise eqb xs ys ≡ same xs ys
unfolding same
pointwise_same [] [] = refl
pointwise_same [] (y ∷ ys) = refl
pointwise_same (x ∷ xs) [] = refl
pointwise_same (x ∷ xs) (y ∷ ys) = ap (λ (b : Bool). eqb x y && b) (pointwise_same xs ys)

pub refile-requires-clause-list_value : goal.refile-requires-clause-list_value
refile-requires-clause-list_value c = (both_true _ _ (sym (rw c.entries-n.ensures at c.well_listed.ensures) ∙ c.if-well_listed.true)).0

pub returns-then-refile : goal.returns-then-refile
returns-then-refile c =
    let a = c.args in
    let G = whole a.plan.now in
    let S = a.store.now in
    let l = as_pairs a.pairs.now in
    let listed = rw c.entries-n.ensures at c.well_listed.ensures in
    let compared : same S c.if-well_listed.work ≡ sound G S l = elim c.if-well_listed.branch [
      | then-well_listed w ↦
          let told = sound-told G S l _ _ _ c.entries-n.ensures (sym listed ∙ w.if-well_listed.true) w.refile.ensures.value w.refile.ensures.store_after in
          rw w.work-is (sym (rw (sym w.value-is ∙ c.if-refile.true) at told))
      | else-well_listed w ↦ absurd (false≢true (sym w.if-well_listed.false ∙ sym w.value-is ∙ c.if-refile.true))
    ] in
    c.eq.ensures ∙ pointwise_same S _ ∙ compared

pub returns-else-refile : goal.returns-else-refile
returns-else-refile c =
    let a = c.args in
    let G = whole a.plan.now in
    let S = a.store.now in
    let l = as_pairs a.pairs.now in
    let listed = rw c.entries-n.ensures at c.well_listed.ensures in
    elim c.if-well_listed.branch [
      | then-well_listed w ↦
          let told = sound-told G S l _ _ _ c.entries-n.ensures (sym listed ∙ w.if-well_listed.true) w.refile.ensures.value w.refile.ensures.store_after in
          c.if-refile.false ∙ sym (rw (sym w.value-is ∙ c.if-refile.false) at told)
      | else-well_listed w ↦ w.value-is ∙ w.if-well_listed.false ∙ unsound G S l (sym listed ∙ w.if-well_listed.false)
    ]
