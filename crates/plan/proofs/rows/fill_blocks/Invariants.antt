-- `plan::rows::fill_blocks` meets its contract: after b blocks the row's first b * L places are written (`Overwrite` of lists), and
-- a turn writes block b as a multiple of the variables (`Blocks`). Assumes nothing.
use Rattle.std.specs.Prelude.{◌*◌}
use Rattle.lists.proofs.Overwrite.{Written}
use Rattle.plan.specs.Numbers.{columns}
use Rattle.plan.specs.Rows.{row_place}
use Rattle.plan.proofs.rows.fill_blocks.Given as goal

abbrev pub invariant-loop-b : goal.invariant-loop-b
invariant-loop-b live =
    let P = live.plan.numbers in
    Written (columns P) (row_place P live.plan.products.now live.x) live.initial.row (live.b * live.l) live.row
