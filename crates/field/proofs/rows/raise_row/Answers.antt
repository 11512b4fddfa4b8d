-- `field::rows::raise_row` meets its contract: four parts, each of which begins where the one before it ended (`Raising`). Assumes nothing.
use Rattle.std.proofs.Common.{◌%◌, length, arith}
use native.Mathlib.Nat.{mod-le}
use Rattle.field.proofs.Raising.{raised-front, raised-next, raised-rest}
use Rattle.field.proofs.rows.raise_row.Goals as goal

pub returns : goal.returns
returns c =
    let xs = c.args.xs.now in
    let n = length c.args.tops.now in
    let first = raised-front (n % 4) xs c.args.tops.now c.raise.new.tops (mod-le n 4) c.raise.ensures in
    let second = raised-next (n % 16) xs c.raise_pieces.new.tops first (omega arith) (omega arith) c.raise_pieces.ensures in
    let third = raised-next (n % 64) xs c.raise_pieces-2.new.tops second (omega arith) (omega arith) c.raise_pieces-2.ensures in
    raised-rest xs c.raise_pieces-3.new.tops c.requires third c.raise_pieces-3.ensures
