use mathlib.Core.Path.{sym}
use native.Mathlib.Omega.{arith}
use Rattle.general.proofs.Working.{too_many, going-none, going-ranked, going-not, going_next, going-all}
use Rattle.general.proofs.all_new.Goals as goal

pub returns-then-most_new-n : goal.returns-then-most_new-n
returns-then-most_new-n c =
    too_many _ c.args.plan.now.within c.args.plan.now.lent (omega (arith, c.entries-n.ensures, c.most_new.ensures))

pub loop-i-init : goal.loop-i-init
loop-i-init c =
    going-none _ c.args.plan.now.within c.args.plan.now.lent _ c.requires

pub file_entry-requires-clause-ready : goal.file_entry-requires-clause-ready
file_entry-requires-clause-ready c = (going-ranked _ c.args.plan.now.within c.args.plan.now.lent _ _ c.loop-i.invariant).ready

pub returns-then-not-is_new : goal.returns-then-not-is_new
returns-then-not-is_new c =
    going-not _ c.args.plan.now.within c.args.plan.now.lent _ _ c.loop-i.invariant (omega (arith, c.entries-n.ensures)) _ c.file_entry.ensures.result_value
    (sym c.if-not-is_new.ensures)

pub loop-i-preserved : goal.loop-i-preserved
loop-i-preserved c =
    going_next _ c.args.plan.now.within c.args.plan.now.lent _ _ c.loop-i.invariant (omega (arith, c.entries-n.ensures)) _ c.file_entry.ensures.result_value
    (sym c.if-not-is_new.ensures) _ c.file_entry.ensures.store_after

pub returns : goal.returns
returns c =
    going-all _ c.args.plan.now.within c.args.plan.now.lent _ _ c.loop-i.invariant (omega (arith, c.entries-n.ensures))
