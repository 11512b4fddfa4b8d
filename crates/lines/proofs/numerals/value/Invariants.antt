-- `lines::numerals::value` meets its contract: v is what the first digits write, and the rest goes on from it. Assumes nothing.
use Rattle.std.proofs.Common.{◌≡◌, true, ◌^◌, ◌<◌, drop}
use Rattle.lines.specs.Lines.{all_digits, number, number_from}
use Rattle.lines.proofs.numerals.value.Given as goal

abbrev pub invariant-loop-b : goal.invariant-loop-b
invariant-loop-b l = (number l.word ≡ number_from l.v (drop l.b-index l.word)) × (all_digits (drop l.b-index l.word) ≡ true) × (l.v < 10 ^ l.b-index)
