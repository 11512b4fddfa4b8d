-- `field::zeros::any_4` meets its contract: both halves, as one number (`joined`). Assumes nothing.
use Prim.Native.Nat.{◌+◌, ◌*◌}
use native.Mathlib.Omega.{arith}
use Rattle.field.proofs.ZeroBytes.{sum-none, joined}
use borrow.Author.Rules.{rules}
use Rattle.field.proofs.zeros.any_4.Goals as goal

pub any_2-requires : goal.any_2-requires
any_2-requires c = search rules

pub overflow_cast-result : goal.overflow_cast-result
overflow_cast-result c = search rules

pub slice_bounds-any_2-count : goal.slice_bounds-any_2-count
slice_bounds-any_2-count c = search rules

pub slice_bounds-any_2-start : goal.slice_bounds-any_2-start
slice_bounds-any_2-start c = search rules

pub slice_bounds-any_2-end : goal.slice_bounds-any_2-end
slice_bounds-any_2-end c = search rules

pub any_2-requires-2 : goal.any_2-requires-2
any_2-requires-2 c = search rules

pub overflow_cast-result-2 : goal.overflow_cast-result-2
overflow_cast-result-2 c = search rules

pub overflow_mul-result : goal.overflow_mul-result
overflow_mul-result c = search rules

pub overflow_add-result : goal.overflow_add-result
overflow_add-result c = search rules

pub returns : goal.returns
returns c =
    let first = c.any_2 in
    let second = c.any_2-2 in
    let whole = first.result + 65536 * second.result in
    joined first.result second.result whole c.args.xs.now
    (sum-none first.result second.result whole (λ e. omega (arith, e)) (λ e. omega (arith, e)) (λ x y. omega (arith, x, y)))
    2 2 first.ensures second.ensures
