-- `listing::printing::print_refusal` meets its contract: the names line, and a line of two numbers (`Prints`). Assumes nothing.
use mathlib.Core.Path.{◌≡◌, sym}
use native.Mathlib.Omega.{arith}
use Rattle.lists.specs.Places.{placed}
use Rattle.listing.specs.Printed.{refused}
use Rattle.listing.proofs.Prints.{prints-next}
use Rattle.listing.proofs.printing.print_refusal.Goals as goal

pub returns-clause-out_after : goal.returns-clause-out_after
unfolding refused
returns-clause-out_after c =
    let whole = prints-next c.bytes.ensures c.line.ensures (omega arith) in
    let list : c.line.new.self.out.now ≡ placed c.args.out.now 0 (refused c.args.cause c.args.line) = whole.list in
    grind (arith, sym whole.reference, list)

pub returns-clause-value : goal.returns-clause-value
unfolding refused
returns-clause-value c = omega (arith, (prints-next c.bytes.ensures c.line.ensures (omega arith)).ends)
