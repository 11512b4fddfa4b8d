-- `ledger::refiling::refile` meets its contract: filing what is left gives what filing all gives (`Orders`). Assumes nothing.
use Rattle.std.proofs.Common.{drop}
use Rattle.plan.specs.Lending.{whole}
use Rattle.store.specs.Calls.{empty_store}
use Rattle.ledger.specs.Stages.{as_pairs}
use Rattle.ledger.proofs.Orders.{Refiling}
use Rattle.ledger.proofs.refiling.refile.Given as goal

abbrev pub invariant-loop-pair : goal.invariant-loop-pair
invariant-loop-pair l =
    Refiling (whole l.plan) l.skip (empty_store l.plan.numbers) (as_pairs l.pairs) l.store l.fits (as_pairs (drop l.pair-index l.pairs))
