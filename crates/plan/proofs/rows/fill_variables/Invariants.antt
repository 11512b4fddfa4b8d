-- `plan::rows::fill_variables` meets its contract: after k links the first n + k places are the chain, and a turn writes the next
-- link's value behind it (`Linked` of `Chains`). Assumes nothing.
use Rattle.plan.specs.Lending.{whole}
use Rattle.plan.proofs.Chains.{Linked}
use Rattle.plan.proofs.rows.fill_variables.Given as goal

abbrev pub invariant-loop-k : goal.invariant-loop-k
invariant-loop-k l = Linked (whole l.plan) l.entry l.k l.begin l.x
