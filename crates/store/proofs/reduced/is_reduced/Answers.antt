-- `store::reduced::is_reduced` meets its contract: that the state says so is reduced form (`HalfReading`). Assumes nothing.
use mathlib.Core.Path.{◌∙◌}
use Rattle.store.proofs.HalfReading.{half-tested}
use Rattle.store.proofs.reduced.is_reduced.Goals as goal

pub returns : goal.returns
returns c =
    c.passes.ensures ∙ half-tested c.args.p c.args.c c.args.store.now c.requires.modulus.0 c.requires.store_len
