-- `records::remove_at` meets its contract: with the record there, and on each way past. Assumes nothing.
use Rattle.std.proofs.Common.{◌∙◌, sym}
use Rattle.records.proofs.Removals.{removed-there, removed-above, removed-beyond}
use Rattle.records.proofs.remove_at.Goals.{else-at-count-via-then-at-count+else-count-records, else-at-count-via-else-at-count}
use Rattle.records.proofs.remove_at.Goals as goal

pub returns-then-count-records : goal.returns-then-count-records
returns-then-count-records c = c.remove.ensures.1 ∙ sym (removed-there _ _ _ c.if-at-count.true c.if-count-records.true)

pub returns-else-at-count : goal.returns-else-at-count
returns-else-at-count c = elim c.else-at-count.branch [
  | else-at-count-via-then-at-count+else-count-records w ↦ sym (removed-beyond _ _ _ w.if-count-records.false)
  | else-at-count-via-else-at-count w ↦ sym (removed-above _ _ _ w.if-at-count.false)
]
