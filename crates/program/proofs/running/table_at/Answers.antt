-- `program::running::table_at` meets its contract: a link's table by its place, table m by its formula, and table m+1 from it.
-- Assumes nothing.
use mathlib.Core.Path.{sym, ◌∙◌}
use Prim.Native.Nat.{◌<◌}
use native.Mathlib.Omega.{arith}
use Rattle.plan.proofs.Bounds.{prime-low, modulus}
use Rattle.program.proofs.Demand2.{table-link, table-square, table-minus}
use Rattle.program.proofs.Interpreting.{square-small, minus-zero, minus-other}
use Rattle.program.proofs.running.table_at.Goals as goal

pub returns-then-k-plan : goal.returns-then-k-plan
returns-then-k-plan c = sym (table-link _ _ _ _ c.if-k-plan.true)

pub square_at-r-requires-clause-modulus : goal.square_at-r-requires-clause-modulus
square_at-r-requires-clause-modulus c = modulus c.args.plan.now.within

pub returns-then-k-plan-2 : goal.returns-then-k-plan-2
returns-then-k-plan-2 c = c.square_at-r.ensures ∙ sym (table-square _ _ _ _ c.if-k-plan-2.true)

pub returns-then-r-eq0 : goal.returns-then-r-eq0
returns-then-r-eq0 c =
    minus-zero c.args.plan.now.numbers.p _ _ c.square_at-r.ensures c.if-r-eq0.true
    ∙ sym (table-minus _ _ _ _ (omega arith))

pub overflow_sub-result : goal.overflow_sub-result
overflow_sub-result c =
    let positive : 0 < c.args.plan.now.numbers.p =
    (omega (arith, prime-low c.args.plan.now.within)) in
    omega (arith, square-small c.args.plan.now.numbers.p c.args.z positive, c.square_at-r.ensures)

pub returns : goal.returns
returns c =
    let positive : 0 < c.args.plan.now.numbers.p =
    (omega (arith, prime-low c.args.plan.now.within)) in
    minus-other c.args.plan.now.numbers.p _ _ positive c.square_at-r.ensures c.if-r-eq0.false
    ∙ sym (table-minus _ _ _ _ (omega arith))
