use mathlib.Core.Path.{sym, subst}
use native.Mathlib.Omega.{arith}
use Rattle.listing.specs.Printing.{Prints}
use Rattle.listing.proofs.Digits.{decimal-one, decimal-next, decimal-tenth}
use Rattle.listing.proofs.Prints.{prints-length, prints-next}
use Rattle.listing.proofs.printer.Printer.+decimal.Goals as goal

pub returns-then-n-lt10 : goal.returns-then-n-lt10
returns-then-n-lt10 t c = subst (Prints c.args.self.now c.byte.new.self) (sym (decimal-one c.args.n c.if-n-lt10.true)) c.byte.ensures

pub byte-requires-2 : goal.byte-requires-2
byte-requires-2 t c =
    let few = decimal-tenth c.args.n c.ranges.n.fits in
    omega (arith, few, c.decimal.ensures.ends, prints-length c.decimal.ensures (omega (arith, few, c.requires)), c.requires)

pub returns : goal.returns
returns t c =
    let few = decimal-tenth c.args.n c.ranges.n.fits in
    subst (Prints c.args.self.now c.byte-2.new.self) (sym (decimal-next c.args.n c.if-n-lt10.false c.ranges.n.fits))
    (prints-next c.decimal.ensures c.byte-2.ensures (omega (arith, few, c.requires)))
