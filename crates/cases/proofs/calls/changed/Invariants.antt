-- `cases::calls::changed` is safe: the count is at most the number of bytes so far.
use Rattle.std.proofs.Common.{◌≤◌}
use Rattle.cases.proofs.calls.changed.Given as goal

abbrev pub invariant-loop-byte : goal.invariant-loop-byte
invariant-loop-byte l = l.count ≤ l.byte-index
