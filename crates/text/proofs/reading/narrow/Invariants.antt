-- `text::reading::narrow` meets its contract: the first numbers are written (`Written` of `lists`). Assumes nothing.
use Rattle.std.proofs.Common.{length}
use Rattle.lists.specs.Places.{at}
use Rattle.lists.proofs.Overwrite.{Written}
use Rattle.text.proofs.reading.narrow.Given as goal

abbrev pub invariant-loop-i : goal.invariant-loop-i
invariant-loop-i l = Written (length l.xs) (at l.xs) l.initial.out l.i l.out
