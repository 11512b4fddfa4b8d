-- `readback::recovery::coefficient_step` meets its contract: the place is counted from the end of the program (`Recovering`). Assumes nothing.
use mathlib.Core.Path.{◌≡◌}
use Prim.Native.Nat.{◌+◌, ◌-◌, ◌*◌}
use native.Mathlib.Omega.{arith}
use Rattle.plan.specs.Numbers.{variables}
use Rattle.readback.specs.Recovery.{first_product}
use Rattle.readback.proofs.Recovering.{from_end, step-inner, step-last}
use Rattle.readback.proofs.recovery.coefficient_step.Goals as goal

-- the program's steps from its end, as the code counts them
counted : (c : goal.After-step_count) →
    let P = c.args.plan in
    let b = c.args.b in
    first_product P + b * (2 * variables P + 12) + (P.t - b) * (2 * c.variables-l.result + 12) + c.variables-l.result ≡ c.step_count.result
counted c =
    rw (c.variables-l.ensures, c.step_count.ensures) (from_end c.args.plan c.args.b c.requires.b_le_t)

pub overflow_sub-begin : goal.overflow_sub-begin
overflow_sub-begin c = omega (arith, counted c)

pub overflow_sub-begin-3 : goal.overflow_sub-begin-3
overflow_sub-begin-3 c = omega (arith, counted c.before)

pub returns-then-b-plan : goal.returns-then-b-plan
returns-then-b-plan c =
    let at_count = c.before.before.before in
    let s = at_count.before.before in
    omega (arith, counted at_count, step-inner s.args.plan s.args.b c.if-b-plan.true)

pub returns : goal.returns
returns c =
    let at_count = c.before.before.before in
    let s = at_count.before.before in
    omega (arith, counted at_count, step-last s.args.plan s.args.b c.if-b-plan.false)
