-- `field::zeros::any_2` meets its contract: two bytes as one number (`two`). Assumes nothing.
use native.Mathlib.Omega.{arith}
use borrow.Author.Rules.{rules}
use Rattle.field.proofs.ZeroBytes.{two}
use Rattle.field.proofs.zeros.any_2.Goals as goal

pub bounds-xs-0 : goal.bounds-xs-0
bounds-xs-0 c = search rules

pub bounds-xs-1 : goal.bounds-xs-1
bounds-xs-1 c = search rules

pub overflow_mul-result : goal.overflow_mul-result
overflow_mul-result c = omega (arith, c.type_inv.xs 1)

pub overflow_add-result : goal.overflow_add-result
overflow_add-result c = omega (arith, c.shared_slice_known-1.given 0, c.type_inv.xs 1)

pub returns : goal.returns
returns c = two c.args.xs.now c.requires
