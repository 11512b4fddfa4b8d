-- `field::zeros::any_16` meets its contract: both halves (`or-both`). Assumes nothing.
use borrow.Author.Rules.{rules}
use Rattle.field.proofs.ZeroBytes.{or-both}
use Rattle.field.proofs.zeros.any_16.Goals as goal

pub any_8-requires : goal.any_8-requires
any_8-requires c = search rules

pub slice_bounds-any_8-count : goal.slice_bounds-any_8-count
slice_bounds-any_8-count c = search rules

pub slice_bounds-any_8-start : goal.slice_bounds-any_8-start
slice_bounds-any_8-start c = search rules

pub slice_bounds-any_8-end : goal.slice_bounds-any_8-end
slice_bounds-any_8-end c = search rules

pub any_8-requires-2 : goal.any_8-requires-2
any_8-requires-2 c = search rules

pub returns : goal.returns
returns c =
    let first = c.any_8 in
    let second = c.any_8-2 in
    or-both 8 8 first.result second.result c.args.xs.now first.ensures second.ensures
