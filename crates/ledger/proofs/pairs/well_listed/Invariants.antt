-- `ledger::pairs::well_listed` meets its contract: what is left to tell is whether the rest is in range, has no entry twice, and none that is
-- marked (`Rests`). Assumes nothing.
use Rattle.std.proofs.Common.{◌≡◌, ◌&&◌, drop}
use Rattle.ledger.specs.Lists.{distinct}
use Rattle.ledger.specs.Stages.{as_pairs, ranged}
use Rattle.ledger.proofs.Rests.{well}
use Rattle.ledger.proofs.pairs.well_listed.Given as goal

abbrev pub invariant-loop-entry : goal.invariant-loop-entry
invariant-loop-entry l = (ranged l.n l.s (as_pairs l.pairs) && distinct (as_pairs l.pairs)) ≡ well l.n l.s l.seen (as_pairs (drop l.entry-index l.pairs))
