-- `text::reading::read_below` meets its contract: 13 first, and `out` is written only where the line is not refused. Assumes nothing.
use Rattle.std.proofs.Common.{sym}
use Rattle.field.proofs.Ranges.{below_more}
use Rattle.text.proofs.reading.read_below.Goals as goal

pub narrow-requires-clause-xs_value : goal.narrow-requires-clause-xs_value
narrow-requires-clause-xs_value c = below_more _ c.read_line.new.out 256 c.requires.bound_high (sym c.if-not-numbers_below.ensures)
