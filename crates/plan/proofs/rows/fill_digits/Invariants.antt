-- `plan::rows::fill_digits` meets its contract: a turn splits one more digit off the entry (`Split` of `Digits`). Assumes nothing.
use Rattle.plan.proofs.Digits.{Split}
use Rattle.plan.proofs.rows.fill_digits.Given as goal

abbrev pub invariant-loop-j : goal.invariant-loop-j
invariant-loop-j l = Split l.radices l.entry l.j l.rest l.x
