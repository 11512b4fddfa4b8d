-- `field::zeros::short_zero` meets its contract: two pieces that cover the list, front and end (`or-ends`), or at most one byte (`single`).
-- Assumes nothing.
use mathlib.Core.Path.{sym, ap}
use native.Mathlib.Omega.{arith}
use lib.Dec.{ltb}
use Rattle.lists.specs.Places.{every, at}
use Rattle.field.proofs.ZeroBytes.{or-ends, single}
use borrow.Author.Rules.{rules}
use Rattle.field.proofs.zeros.short_zero.Goals as goal

pub any_32-requires : goal.any_32-requires
any_32-requires c = search rules

pub slice_bounds-any_32-count : goal.slice_bounds-any_32-count
slice_bounds-any_32-count c = search rules

pub slice_bounds-any_32-start : goal.slice_bounds-any_32-start
slice_bounds-any_32-start c = search rules

pub slice_bounds-any_32-end : goal.slice_bounds-any_32-end
slice_bounds-any_32-end c = search rules

pub any_32-requires-then-n-ge32 : goal.any_32-requires-then-n-ge32
any_32-requires-then-n-ge32 c = search rules

pub returns-then-n-ge32 : goal.returns-then-n-ge32
returns-then-n-ge32 c =
    let xs = c.args.xs.now in
    let first = c.any_32 in
    let second = c.any_32-then-n-ge32 in
    or-ends 32 first.result second.result xs (omega arith) (omega arith) first.ensures second.ensures

pub any_16-requires : goal.any_16-requires
any_16-requires c = search rules

pub slice_bounds-any_16-count : goal.slice_bounds-any_16-count
slice_bounds-any_16-count c = search rules

pub slice_bounds-any_16-start : goal.slice_bounds-any_16-start
slice_bounds-any_16-start c = search rules

pub slice_bounds-any_16-end : goal.slice_bounds-any_16-end
slice_bounds-any_16-end c = search rules

pub any_16-requires-then-n-ge16 : goal.any_16-requires-then-n-ge16
any_16-requires-then-n-ge16 c = search rules

pub returns-then-n-ge16 : goal.returns-then-n-ge16
returns-then-n-ge16 c =
    let xs = c.args.xs.now in
    let first = c.any_16 in
    let second = c.any_16-then-n-ge16 in
    or-ends 16 first.result second.result xs (omega arith) (omega arith) first.ensures second.ensures

pub any_8-requires : goal.any_8-requires
any_8-requires c = search rules

pub slice_bounds-any_8-count : goal.slice_bounds-any_8-count
slice_bounds-any_8-count c = search rules

pub slice_bounds-any_8-start : goal.slice_bounds-any_8-start
slice_bounds-any_8-start c = search rules

pub slice_bounds-any_8-end : goal.slice_bounds-any_8-end
slice_bounds-any_8-end c = search rules

pub any_8-requires-then-n-ge8 : goal.any_8-requires-then-n-ge8
any_8-requires-then-n-ge8 c = search rules

pub returns-then-n-ge8 : goal.returns-then-n-ge8
returns-then-n-ge8 c =
    let xs = c.args.xs.now in
    let first = c.any_8 in
    let second = c.any_8-then-n-ge8 in
    or-ends 8 first.result second.result xs (omega arith) (omega arith) first.ensures second.ensures

pub any_4-requires : goal.any_4-requires
any_4-requires c = search rules

pub slice_bounds-any_4-count : goal.slice_bounds-any_4-count
slice_bounds-any_4-count c = search rules

pub slice_bounds-any_4-start : goal.slice_bounds-any_4-start
slice_bounds-any_4-start c = search rules

pub slice_bounds-any_4-end : goal.slice_bounds-any_4-end
slice_bounds-any_4-end c = search rules

pub any_4-requires-then-n-ge4 : goal.any_4-requires-then-n-ge4
any_4-requires-then-n-ge4 c = search rules

pub returns-then-n-ge4 : goal.returns-then-n-ge4
returns-then-n-ge4 c =
    let xs = c.args.xs.now in
    let first = c.any_4 in
    let second = c.any_4-then-n-ge4 in
    or-ends 4 first.result second.result xs (omega arith) (omega arith) first.ensures second.ensures

pub any_2-requires : goal.any_2-requires
any_2-requires c = search rules

pub slice_bounds-any_2-count : goal.slice_bounds-any_2-count
slice_bounds-any_2-count c = search rules

pub slice_bounds-any_2-start : goal.slice_bounds-any_2-start
slice_bounds-any_2-start c = search rules

pub slice_bounds-any_2-end : goal.slice_bounds-any_2-end
slice_bounds-any_2-end c = search rules

pub any_2-requires-then-n-ge2 : goal.any_2-requires-then-n-ge2
any_2-requires-then-n-ge2 c = search rules

pub returns-then-n-ge2 : goal.returns-then-n-ge2
returns-then-n-ge2 c =
    let xs = c.args.xs.now in
    let first = c.any_2 in
    let second = c.any_2-then-n-ge2 in
    or-ends 2 first.result second.result xs (omega arith) (omega arith) first.ensures second.ensures

pub returns-then-n-eq0 : goal.returns-then-n-eq0
unfolding every
returns-then-n-eq0 c =
    let xs = c.args.xs.now in
    ap (every (λ j. ltb (at xs j) 1)) (sym c.if-n-eq0.true)

pub bounds-xs-0 : goal.bounds-xs-0
bounds-xs-0 c = search rules

pub returns : goal.returns
returns c = single c.args.xs.now (omega arith)
