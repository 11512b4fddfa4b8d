-- `plan::calls::row` meets its contract: what `admit` refuses, else cause 7 (`Admitting`). Assumes nothing.
use mathlib.Core.Path.{sym, ◌∙◌}
use borrow.Author.Tests.{le-ltb, lt-ltb, eqb-true}
use Rattle.std.specs.Prelude.{◌≤◌, ◌<◌}
use Rattle.std.proofs.lemmas.Result.{err_from_is_err_and}
use native.Mathlib.Omega.{arith}
use Rattle.plan.specs.Numbers.{product}
use Rattle.plan.proofs.Admitting.{passing, turned-away}
use Rattle.plan.proofs.calls.row.Goals as goal

pub returns-in_err-plan-clause-refusal : goal.returns-in_err-plan-clause-refusal
returns-in_err-plan-clause-refusal c =
    let p = err_from_is_err_and c.from_residual.result c.from_residual.ensures.1 in
    rw (p.1, p.2) (turned-away _ _ c.in_err-plan.ensures.answer _).0

pub returns-then-entries-entry-clause-refusal : goal.returns-then-entries-entry-clause-refusal
returns-then-entries-entry-clause-refusal c =
    let far : product c.in_ok-plan.plan.radices.now ≤ c.args.entry = omega (arith, c.entries.ensures, c.if-entries-entry.true) in
    sym ((passing _ _ c.in_ok-plan.plan c.in_ok-plan.ensures).rest _ ∙ rw (le-ltb _ _ far))

pub fill_row-requires : goal.fill_row-requires
fill_row-requires c = eqb-true _ _ (passing _ _ c.in_ok-plan.plan c.in_ok-plan.ensures).own-fits

pub returns-clause-refusal : goal.returns-clause-refusal
returns-clause-refusal c =
    let near : c.args.entry < product c.in_ok-plan.plan.radices.now = omega (arith, c.entries.ensures, c.if-entries-entry.false) in
    sym ((passing _ _ c.in_ok-plan.plan c.in_ok-plan.ensures).rest _ ∙ rw (lt-ltb _ _ near))
