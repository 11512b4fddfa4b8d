-- `program::calls::check_room` meets its contract: the step count's limit makes its product fit. Assumes nothing.
use native.Mathlib.Omega.{arith}
use Rattle.program.proofs.Shape.{step-limit}
use Rattle.program.proofs.calls.check_room.Goals as goal

pub overflow_mul-step_count : goal.overflow_mul-step_count
overflow_mul-step_count c = omega (arith, c.step_count.ensures, step-limit c.args.plan.now.numbers c.args.plan.now.within)
