-- `store::calls::settle` meets its contract: what `admit` refuses, else causes 6 and 7, else how the entry stands. Assumes nothing.
use mathlib.Core.Path.{sym, ap, ◌∙◌}
use native.Mathlib.Omega.{arith}
use borrow.Author.Tests.{eqb-true, le-ltb, lt-ltb}
use Rattle.std.specs.Prelude.{◌<◌, ◌≤◌}
use Rattle.std.proofs.lemmas.Result.{err_from_is_err_and}
use Rattle.plan.specs.Numbers.{product}
use Rattle.plan.specs.Parts.{store_size}
use Rattle.plan.proofs.Bounds.{modulus}
use Rattle.plan.proofs.Admitting.{passing, turned-away}
use Rattle.plan.proofs.Refusals.{refused-answer}
use Rattle.store.proofs.SettledEntries.{settled-call}
use Rattle.store.proofs.StoreCalls.{columns-small, reduced-told, ready_of}
use Rattle.store.proofs.calls.settle.Goals as goal

pub returns-in_err-plan : goal.returns-in_err-plan
returns-in_err-plan c =
    let r = turned-away _ _ c.in_err-plan.ensures.answer _ in
    let p = err_from_is_err_and c.from_residual.result c.from_residual.ensures.1 in
    rw (p.1, p.2) (refused-answer _ _ _ r.0 r.1)

pub is_reduced-requires : goal.is_reduced-requires
is_reduced-requires c =
    let plan = c.in_ok-plan.plan in
    let a = passing _ _ plan c.in_ok-plan.ensures in record {
      c_bound = columns-small _ plan.within c.columns.ensures;
      modulus = modulus plan.within;
      store_len = eqb-true _ _ a.own-fits ∙ ap store_size (sym c.columns.ensures);
    }

pub returns-then-not-is_reduced : goal.returns-then-not-is_reduced
returns-then-not-is_reduced c =
    let damaged = reduced-told _ _ c.if-not-is_reduced.ensures c.columns.ensures in
    refused-answer 6 _ _ (sym ((passing _ _ c.in_ok-plan.plan c.in_ok-plan.ensures).rest _ ∙ rw damaged)) (omega arith)

pub returns-then-entries-entry : goal.returns-then-entries-entry
returns-then-entries-entry c =
    let sound = reduced-told _ _ c.if-not-is_reduced.ensures c.columns.ensures in
    let far : product c.in_ok-plan.plan.radices.now ≤ c.args.entry = omega (arith, c.entries.ensures, c.if-entries-entry.true) in
    refused-answer 7 _ _ (sym ((passing _ _ c.in_ok-plan.plan c.in_ok-plan.ensures).rest _ ∙ rw (sound, le-ltb _ _ far))) (omega arith)

pub settle_entry-requires : goal.settle_entry-requires
settle_entry-requires c =
    let plan = c.in_ok-plan.plan in
    let sound = reduced-told _ _ c.if-not-is_reduced.ensures c.columns.ensures in
    ready_of _ _ plan.within (eqb-true _ _ (passing _ _ plan c.in_ok-plan.ensures).own-fits) sound

pub returns-else-entries-entry : goal.returns-else-entries-entry
returns-else-entries-entry c =
    let plan = c.in_ok-plan.plan in
    let sound = reduced-told _ _ c.if-not-is_reduced.ensures c.columns.ensures in
    let near : c.args.entry < product plan.radices.now = omega (arith, c.entries.ensures, c.if-entries-entry.false) in
    settled-call _ _ _ _ _ _ c.in_ok-plan.ensures.same ((passing _ _ plan c.in_ok-plan.ensures).rest _ ∙ rw (sound, lt-ltb _ _ near)) c.settle_entry.ensures
