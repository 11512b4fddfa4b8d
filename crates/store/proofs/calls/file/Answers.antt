-- `store::calls::file` meets its contract: what `admit` refuses, else causes 6 to 8, else what filing answers (`StoreCalls`).
-- Assumes nothing.
use mathlib.Core.Path.{sym, ap, ◌∙◌}
use native.Mathlib.Omega.{arith}
use borrow.Author.Tests.{eqb-true, le-ltb, lt-ltb}
use Rattle.std.specs.Prelude.{◌<◌, ◌≤◌, []}
use Rattle.std.proofs.lemmas.Result.{err_from_is_err_and}
use Rattle.plan.specs.Numbers.{product}
use Rattle.plan.specs.Parts.{store_size}
use Rattle.plan.proofs.Bounds.{modulus}
use Rattle.plan.proofs.Admitting.{passing, turned-away}
use Rattle.plan.proofs.Refusals.{refused-answer}
use Rattle.store.proofs.StoreCalls.{columns-small, reduced-told, ready_of, refused-call, filed-call}
use Rattle.store.proofs.calls.file.Goals as goal

-- facts of all clauses as a record of them
clauses : {A B : Type 0} → A × B → record { answer : A; store_after : B }
clauses all = record { answer = all.0; store_after = all.1 }

pub returns-in_err-plan-clause-answer : goal.returns-in_err-plan-clause-answer
returns-in_err-plan-clause-answer c =
    let r = turned-away _ _ c.in_err-plan.ensures.answer _ in
    let p = err_from_is_err_and c.from_residual.result c.from_residual.ensures.1 in
    rw (p.1, p.2) (refused-answer _ _ _ r.0 r.1)

pub returns-in_err-plan-clause-store_after : goal.returns-in_err-plan-clause-store_after
returns-in_err-plan-clause-store_after c =
    let r = turned-away _ _ c.in_err-plan.ensures.answer _ in
    (refused-call _ _ [] _ _ r.0 r.1).1

pub is_reduced-requires : goal.is_reduced-requires
is_reduced-requires c =
    let plan = c.in_ok-plan.plan in
    let a = passing _ _ plan c.in_ok-plan.ensures in record {
      c_bound = columns-small _ plan.within c.columns.ensures;
      modulus = modulus plan.within;
      store_len = eqb-true _ _ a.own-fits ∙ ap store_size (sym c.columns.ensures);
    }

pub returns-then-not-is_reduced : goal.returns-then-not-is_reduced
returns-then-not-is_reduced c =
    let damaged = reduced-told _ _ c.if-not-is_reduced.ensures c.columns.ensures in
    clauses (refused-call _ 6 _ _ _ (sym ((passing _ _ c.in_ok-plan.plan c.in_ok-plan.ensures).rest _ ∙ rw damaged)) (omega arith))

pub returns-then-entries-entry : goal.returns-then-entries-entry
returns-then-entries-entry c =
    let sound = reduced-told _ _ c.if-not-is_reduced.ensures c.columns.ensures in
    let far : product c.in_ok-plan.plan.radices.now ≤ c.args.entry = omega (arith, c.entries.ensures, c.if-entries-entry.true) in
    clauses (refused-call _ 7 _ _ _ (sym ((passing _ _ c.in_ok-plan.plan c.in_ok-plan.ensures).rest _ ∙ rw (sound, le-ltb _ _ far))) (omega arith))

pub returns-then-plan-value : goal.returns-then-plan-value
returns-then-plan-value c =
    let sound = reduced-told _ _ c.if-not-is_reduced.ensures c.columns.ensures in
    let near : c.args.entry < product c.in_ok-plan.plan.radices.now = omega (arith, c.entries.ensures, c.if-entries-entry.false) in
    let rest = (passing _ _ c.in_ok-plan.plan c.in_ok-plan.ensures).rest in
    clauses (refused-call _ 8 _ _ _ (sym (rest _ ∙ rw (sound, lt-ltb _ _ near, le-ltb _ _ c.if-plan-value.true))) (omega arith))

pub file_entry-requires : goal.file_entry-requires
file_entry-requires c =
    let plan = c.in_ok-plan.plan in
    let sound = reduced-told _ _ c.if-not-is_reduced.ensures c.columns.ensures in record {
      ready = ready_of _ _ plan.within (eqb-true _ _ (passing _ _ plan c.in_ok-plan.ensures).own-fits) sound;
      value_lt_p = omega (arith, plan.within.value-high);
    }

pub returns : goal.returns
returns c =
    let plan = c.in_ok-plan.plan in
    let a = passing _ _ plan c.in_ok-plan.ensures in
    let sound = reduced-told _ _ c.if-not-is_reduced.ensures c.columns.ensures in
    let near : c.args.entry < product plan.radices.now = omega (arith, c.entries.ensures, c.if-entries-entry.false) in
    clauses (filed-call _ _ _ _ _ _ c.file_entry.result _ (sym c.in_ok-plan.ensures.same) (eqb-true _ _ a.own-fits)
    (a.rest _ ∙ rw (sound, lt-ltb _ _ near, lt-ltb _ _ c.if-plan-value.false))
    c.file_entry.ensures.result_value c.file_entry.ensures.store_after)
