-- `celerycrag::celery_file_recorded` meets its contract: the list is the records unpacked, and what is left to do of them is done (`Told` of
-- `ledger`). Assumes nothing.
use mathlib.Core.Path.{subst, ◌∙◌}
use Rattle.plan.specs.Parts.{Given}
use Rattle.ledger.specs.Stages.{FiledListed}
use Rattle.ledger.proofs.Told.{file-told}
use Rattle.celerycrag.proofs.celery_file_recorded.Goals as goal

pub returns : goal.returns
returns c =
    let a = c.args in
    let list = c.unpack-size in
    let filed = c.file_listed-placed in
    let heard = subst (λ (G : Given).
    FiledListed G a.store.now a.work.now list.new.list list.result a.count.now a.entry a.value a.column.now filed.result filed.new.store filed.new.work filed.new.count filed.new.column)
    c.lent-lent.ensures filed.ensures in
    let told = file-told _ _ _ _ _ _ _ _ _ _ _ _ _ _ _ _ _ c.list_buffer-list.ensures list.ensures.0 list.ensures.1 heard c.add_record.ensures.records_after in
    (c.add_record.ensures.number ∙ told.0, told.1, told.2, told.3)
