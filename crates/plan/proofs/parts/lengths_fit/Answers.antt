-- `plan::parts::lengths_fit` meets its contract: the number of weights is the sum in closed form. Assumes nothing.
use Rattle.std.proofs.Common.{rules}
use Rattle.plan.specs.Parts.{lengths_fit}
use Rattle.plan.proofs.Bounds.{link-weights}
use Rattle.plan.proofs.parts.lengths_fit.Goals as goal

pub returns-then-tables-m : goal.returns-then-tables-m
unfolding lengths_fit
returns-then-tables-m c =
    let e = link-weights c.args.plan.n c.args.plan.m c.requires.digit-count in
    search (rules, e)

pub returns-else-tables-m : goal.returns-else-tables-m
unfolding lengths_fit
returns-else-tables-m c =
    let e = link-weights c.args.plan.n c.args.plan.m c.requires.digit-count in
    search (rules, e)
