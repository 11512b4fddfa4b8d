-- `program::writing::Writer::squares` meets its contract: six pieces one behind the other (`Placement`). Assumes nothing.
use mathlib.Core.List.{◌++◌}
use Prim.Native.Nat.{◌+◌}
use Rattle.program.specs.Layout.{clear, add, boot}
use Rattle.program.proofs.Placement.{wrote-6}
use Rattle.program.proofs.writing.Writer.squares.Goals as goal

pub returns : goal.returns
returns c =
    let u = c.args.u in
    let m = c.args.table in
    wrote-6 (clear (u + 2) ++ (add (u + 2) u 1 ++ add (u + 2) (u + 1) 1)) (clear (u + 3) ++ (add (u + 3) u 1 ++ add (u + 3) (u + 1) c.args.minus))
    (boot (u + 2) m) (boot (u + 3) (m + 1)) (add (u + 4) (u + 2) 1) (add (u + 4) (u + 3) 1) c.requires.room
    c.pair.ensures c.pair-2.ensures c.boot.ensures c.boot-2.ensures c.add.ensures c.add-2.ensures
