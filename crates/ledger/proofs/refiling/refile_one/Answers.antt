-- `ledger::refiling::refile_one` meets its contract: the pair is left out, or filed (`Orders`). Assumes nothing.
use Rattle.std.proofs.Common.{sym, ◌∙◌}
use Rattle.plan.specs.Lending.{whole}
use Rattle.ledger.specs.Stages.{as_pair}
use Rattle.ledger.proofs.Orders.{left_out, put_in, kept-told}
use Rattle.ledger.proofs.refiling.refile_one.Goals as goal

pub returns-then-entry-skip : goal.returns-then-entry-skip
returns-then-entry-skip c =
    let a = c.args in
    let left = left_out (whole a.plan.now) a.skip a.store.now (as_pair a.pair) (rw c.from-entry.ensures at c.if-entry-skip.true) in
    record { store_after = sym left.0; value = sym left.1 }

pub returns : goal.returns
returns c =
    let a = c.args in
    let put = put_in (whole a.plan.now) a.skip a.store.now (as_pair a.pair) (rw c.from-entry.ensures at c.if-entry-skip.false) in
    let filed = rw c.from-entry.ensures at c.file_entry.ensures in
    record { store_after = filed.store_after ∙ sym put.0; value = c.is_ok.ensures.value ∙ kept-told _ _ filed.result_value ∙ sym put.1 }
