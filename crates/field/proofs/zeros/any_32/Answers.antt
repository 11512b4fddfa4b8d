-- `field::zeros::any_32` meets its contract: both halves (`or-both`). Assumes nothing.
use borrow.Author.Rules.{rules}
use Rattle.field.proofs.ZeroBytes.{or-both}
use Rattle.field.proofs.zeros.any_32.Goals as goal

pub any_16-requires : goal.any_16-requires
any_16-requires c = search rules

pub slice_bounds-any_16-count : goal.slice_bounds-any_16-count
slice_bounds-any_16-count c = search rules

pub slice_bounds-any_16-start : goal.slice_bounds-any_16-start
slice_bounds-any_16-start c = search rules

pub slice_bounds-any_16-end : goal.slice_bounds-any_16-end
slice_bounds-any_16-end c = search rules

pub any_16-requires-2 : goal.any_16-requires-2
any_16-requires-2 c = search rules

pub returns : goal.returns
returns c =
    let first = c.any_16 in
    let second = c.any_16-2 in
    or-both 16 16 first.result second.result c.args.xs.now first.ensures second.ensures
