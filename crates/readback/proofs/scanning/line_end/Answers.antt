-- `readback::scanning::line_end` meets its contract: a line that does not end at the text's end ends before it. Assumes nothing.
use native.Mathlib.Omega.{arith}
use Rattle.lines.proofs.WordLaws.{piece-fits}
use Rattle.readback.proofs.scanning.line_end.Goals as goal

pub returns-clause-ok : goal.returns-clause-ok
returns-clause-ok c = (c.piece_end-end.ensures, omega (arith, c.piece_end-end.ensures, c.if-end-text.false, piece-fits 10 c.args.text.now c.args.at c.requires))
