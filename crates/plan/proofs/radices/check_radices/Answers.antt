-- `plan::radices::check_radices` meets its contract: 2 before 3, each from its test. Assumes nothing.
use mathlib.Core.Path.{sym}
use Rattle.plan.proofs.Radix.{radices-positive}
use Rattle.plan.proofs.radices.check_radices.Goals as goal

pub product-requires : goal.product-requires
product-requires c = radices-positive _ _ (sym c.if-not-radices_fit.ensures)
