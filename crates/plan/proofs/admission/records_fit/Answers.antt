-- `plan::admission::records_fit` meets its contract: the product is at most 4,096, so it is not cut off. Assumes nothing.
use Rattle.plan.proofs.Radix.{radices-positive}
use Rattle.plan.proofs.admission.records_fit.Goals as goal

pub product-requires : goal.product-requires
product-requires c = radices-positive _ _ c.requires.radices_value
