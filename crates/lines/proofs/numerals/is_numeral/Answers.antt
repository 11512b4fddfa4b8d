-- `lines::numerals::is_numeral` meets its contract. Assumes nothing.
use Rattle.std.proofs.Common.{arith}
use Rattle.lines.specs.Lines.{is_numeral}
use Rattle.lines.proofs.numerals.is_numeral.Goals as goal

pub returns-then-size-eq1 : goal.returns-then-size-eq1
unfolding is_numeral
returns-then-size-eq1 c = grind arith

pub returns-else-size-eq1 : goal.returns-else-size-eq1
unfolding is_numeral
returns-else-size-eq1 c = grind arith

pub returns-else-all_digits : goal.returns-else-all_digits
unfolding is_numeral
returns-else-all_digits c = grind arith
