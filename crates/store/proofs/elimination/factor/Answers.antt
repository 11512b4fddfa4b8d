-- `store::elimination::factor` meets its contract. Assumes nothing.
use borrow.Author.Tests.{eq-eqb, ne_eqb}
use Rattle.store.specs.Stages.{factor}
use Rattle.store.proofs.elimination.factor.Goals as goal

pub returns-then-first-eq0 : goal.returns-then-first-eq0
unfolding factor
returns-then-first-eq0 c = rw (eq-eqb _ 0 c.if-first-eq0.true)

pub returns : goal.returns
unfolding factor
returns c = rw (ne_eqb _ 0 c.if-first-eq0.false) c.opposite.ensures
