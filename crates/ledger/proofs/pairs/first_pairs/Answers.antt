-- `ledger::pairs::first_pairs` meets its contract (`Rests`). Assumes nothing.
use Rattle.std.proofs.Common.{◌∙◌, ap, List, take, ◌/◌, ◌≤◌, length, ℕ, arith}
use Rattle.ledger.specs.Stages.{as_pairs}
use Rattle.ledger.proofs.Rests.{chunked}
use Rattle.ledger.proofs.pairs.first_pairs.Goals as goal

pub returns-clause-value : goal.returns-clause-value
returns-clause-value c =
    let room : c.args.count ≤ length c.args.list.now / 2 = omega arith in
    ap (λ (xs : List (List ℕ)). as_pairs (take c.args.count xs)) c.as_chunks.ensures.front ∙ chunked c.args.count _ c.args.list.now room
