-- `field::zeros::any_64` meets its contract: both halves (`or-both`). Assumes nothing.
use borrow.Author.Rules.{rules}
use Rattle.field.proofs.ZeroBytes.{or-both}
use Rattle.field.proofs.zeros.any_64.Goals as goal

pub any_32-requires : goal.any_32-requires
any_32-requires c = search rules

pub slice_bounds-any_32-count : goal.slice_bounds-any_32-count
slice_bounds-any_32-count c = search rules

pub slice_bounds-any_32-start : goal.slice_bounds-any_32-start
slice_bounds-any_32-start c = search rules

pub slice_bounds-any_32-end : goal.slice_bounds-any_32-end
slice_bounds-any_32-end c = search rules

pub any_32-requires-2 : goal.any_32-requires-2
any_32-requires-2 c = search rules

pub returns : goal.returns
returns c =
    let first = c.any_32 in
    let second = c.any_32-2 in
    or-both 32 32 first.result second.result c.args.xs.now first.ensures second.ensures
