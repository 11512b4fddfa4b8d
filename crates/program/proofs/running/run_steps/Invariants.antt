-- `program::running::run_steps` meets its contract: before each step the state is that of the definition (`Running` of `Interpreting`),
-- and each arm is one of its turns. Assumes nothing.
use Rattle.program.proofs.Interpreting.{Running}
use Rattle.program.proofs.running.run_steps.Given as goal

abbrev pub invariant-loop-kind : goal.invariant-loop-kind
invariant-loop-kind l = Running l.plan.numbers l.plan.tables.now l.fn.steps l.digits l.kind-index l.registers.at l.bootstraps
