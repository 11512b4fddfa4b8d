-- `ledger::calls::withdraw_sound` meets its contract: what `check_listed` refuses, then cause 17, else the rest of the list is filed on the empty
-- store. Assumes nothing.
use mathlib.Core.Path.{sym, ap, ◌∙◌}
use Prim.Native.Nat.{ℕ}
use native.Mathlib.Omega.{arith}
use lib.ListN.{length, length-map}
use Rattle.ledger.specs.Stages.{as_pair, as_pairs}
use Rattle.ledger.proofs.Places.{place-below, place_some, place_none}
use Rattle.ledger.proofs.Rests.{first-listed}
use Rattle.ledger.proofs.Soundness.{sound-ranged}
use Rattle.ledger.proofs.Endings.{before-withdrawing, sound-listed}
use Rattle.ledger.proofs.calls.withdraw_sound.Goals as goal

pub returns-in_default-clause-refusal : goal.returns-in_default-clause-refusal
returns-in_default-clause-refusal c =
    let a = c.args in
    let absent = place_none _ a.entry (c.in_default.ensures ∙ first-listed a.entry a.pairs.now) in
    sym (before-withdrawing _ _ _ _ (sym c.in_ok-check_listed.ensures) ∙ rw absent)

pub refile-requires-clause-list_value : goal.refile-requires-clause-list_value
refile-requires-clause-list_value c = sound-ranged _ _ _ (sound-listed _ _ _ _ (sym c.in_ok-check_listed.ensures)).1

pub returns-clause-refusal : goal.returns-clause-refusal
returns-clause-refusal c =
    let a = c.args in
    let there = place_some _ a.entry _ (c.in-Some.ensures ∙ first-listed a.entry a.pairs.now) in
    sym (before-withdrawing _ _ _ _ (sym c.in_ok-check_listed.ensures) ∙ rw there.0)

pub returns-clause-taken : goal.returns-clause-taken
returns-clause-taken c =
    let a = c.args in
    let there = place_some _ a.entry _ (c.in-Some.ensures ∙ first-listed a.entry a.pairs.now) in
    ap (λ (k : ℕ). record { count = length a.pairs.now; «at» = k }) there.1

pub returns-clause-below : goal.returns-clause-below
returns-clause-below c =
    let a = c.args in
    let there = place_some _ a.entry _ (c.in-Some.ensures ∙ first-listed a.entry a.pairs.now) in
    omega (arith, there.1, (place-below (as_pairs a.pairs.now) a.entry).0 there.0, length-map a.pairs.now as_pair)
