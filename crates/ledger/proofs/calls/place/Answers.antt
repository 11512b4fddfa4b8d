-- `ledger::calls::place` meets its contract: the entry is listed where the first pair of it is (`Rests`). Assumes nothing.
use Rattle.std.proofs.Common.{◌∙◌, ap, ℕ}
use Rattle.std.specs.Prelude.{Option}
use Rattle.ledger.specs.Stages.{as_pairs, placed}
use Rattle.ledger.proofs.Places.{place_some, place_none}
use Rattle.ledger.proofs.Rests.{first-listed}
use Rattle.ledger.proofs.calls.place.Goals.{in-Some, in-None}
use Rattle.ledger.proofs.calls.place.Goals as goal

pub returns-clause-count_after : goal.returns-clause-count_after
returns-clause-count_after c =
    let a = c.args in
    let l = as_pairs a.pairs.now in
    let first = first-listed a.entry a.pairs.now in
    elim c.match-find.branch [
      | in-Some w ↦ rw (place_some l a.entry _ (w.in-Some.ensures ∙ first)).0 w.count-is
      | in-None w ↦ rw (place_none l a.entry (w.in-None.ensures ∙ first)) w.count-is
    ]

pub returns-clause-r_value : goal.returns-clause-r_value
returns-clause-r_value c =
    let a = c.args in
    let l = as_pairs a.pairs.now in
    let first = first-listed a.entry a.pairs.now in
    let put = λ (k : Option ℕ). placed k a.entry a.value in
    elim c.match-find.branch [
      | in-Some w ↦ rw (place_some l a.entry _ (w.in-Some.ensures ∙ first)).0 (ap put w.at-is)
      | in-None w ↦ rw (place_none l a.entry (w.in-None.ensures ∙ first)) (ap put w.at-is)
    ]
