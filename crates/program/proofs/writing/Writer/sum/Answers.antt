-- `program::writing::Writer::sum` meets its contract: a step and a sum one behind the other (`Placement`). Assumes nothing.
use lib.ListN.{length}
use Rattle.lists.specs.Places.{at}
use Rattle.program.specs.Layout.{clear, adds}
use Rattle.program.proofs.Placement.{wrote_then}
use Rattle.program.proofs.writing.Writer.sum.Goals as goal

pub returns : goal.returns
returns c =
    let ws = c.args.weights.now in
    wrote_then (clear c.args.to) (adds c.args.to (at ws) (length ws)) c.requires.room c.clear.ensures c.adds.ensures
