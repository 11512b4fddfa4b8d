-- `program::writing::Writer::step` meets its contract: four stores in a row (`Placement`). Assumes nothing.
use mathlib.Core.Path.{refl}
use lib.ListN.{length-set}
use Rattle.program.proofs.Placement.{stepped}
use Rattle.program.proofs.writing.Writer.step.Goals as goal

pub returns : goal.returns
returns c =
    record {
      next = refl;
      list = stepped _ _ _ _ _ _ c.requires;
      size = simp length-set refl;
      same = refl;
    }
