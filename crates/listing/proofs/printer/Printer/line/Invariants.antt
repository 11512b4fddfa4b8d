-- `listing::printer::Printer::line` meets its contract: after i turns the first i numbers are written, each with a space behind it (`Lines`).
-- Assumes nothing.
use mathlib.Core.Path.{◌≡◌}
use lib.ListN.{take}
use Rattle.listing.proofs.Puts.{Put}
use Rattle.listing.proofs.Lines.{spread}
use Rattle.listing.proofs.printer.Printer.line.Given as goal

abbrev pub invariant-loop-n : goal.invariant-loop-n
invariant-loop-n l = record {
  reference : l.self.out.ghost_name ≡ l.initial.self.out.ghost_name;
  put : Put l.initial.self.out.now l.initial.self.at (spread (take l.n-index l.numbers)) l.self.out.now l.self.at;
}
