-- `listing::printer::Printer::steps` meets its contract: after i turns the lines of the first i steps are written (`Lines`). Assumes nothing.
use mathlib.Core.Path.{◌≡◌}
use Rattle.lists.specs.Places.{joined}
use Rattle.listing.specs.Printed.{step_line}
use Rattle.listing.proofs.Puts.{Put}
use Rattle.listing.proofs.printer.Printer.steps.Given as goal

abbrev pub invariant-loop-kind : goal.invariant-loop-kind
invariant-loop-kind l = record {
  reference : l.self.out.ghost_name ≡ l.initial.self.out.ghost_name;
  put : Put l.initial.self.out.now l.initial.self.at (joined (step_line l.fn.steps) l.kind-index) l.self.out.now l.self.at;
}
