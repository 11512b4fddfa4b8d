-- `lines::reading::read_line` meets its contract. The cursor stays over the line, and the loop's invariant is `Filling`. Assumes nothing.
use Rattle.std.proofs.Common.{◌≡◌, length}
use Rattle.lines.proofs.Filling.{Filling}
use Rattle.lines.proofs.reading.read_line.Given as goal

abbrev pub invariant-loop-place : goal.invariant-loop-place
invariant-loop-place l = record {
  same : l.cursor.line.now ≡ l.line;
  filling : Filling l.most l.line (length l.initial.out) l.out l.cursor.at l.place-index;
}
