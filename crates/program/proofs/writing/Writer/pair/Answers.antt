-- `program::writing::Writer::pair` meets its contract: three steps one behind the other (`Placement`). Assumes nothing.
use Rattle.program.specs.Layout.{clear, add}
use Rattle.program.proofs.Placement.{wrote-3}
use Rattle.program.proofs.writing.Writer.pair.Goals as goal

pub returns : goal.returns
returns c =
    let a = c.args in
    wrote-3 (clear a.to) (add a.to a.u 1) (add a.to a.v a.by) c.requires c.clear.ensures c.add.ensures c.add-2.ensures
