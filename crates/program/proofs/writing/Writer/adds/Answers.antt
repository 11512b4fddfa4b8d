use Rattle.lists.specs.Places.{at}
use Rattle.program.proofs.Placement.{adds_none, adds-fits, adds-next}
use Rattle.program.proofs.writing.Writer.adds.Goals as goal

pub loop-j-init : goal.loop-j-init
loop-j-init c = adds_none _ _ _

pub add-requires : goal.add-requires
add-requires c = adds-fits _ (at c.args.weights.now) _ _ c.loop-j-test.true c.requires.room c.loop-j.invariant

pub loop-j-preserved : goal.loop-j-preserved
loop-j-preserved c = adds-next _ (at c.args.weights.now) _ _ c.loop-j-test.true c.requires.room c.loop-j.invariant c.add.ensures
