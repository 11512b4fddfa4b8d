-- `readback::calls::read_listing` meets its contract: what `admit` refuses, else what the text says. Assumes nothing.
use mathlib.Core.Path.{sym, ap, ap₂, subst, ◌∙◌}
use mathlib.Core.List.{[]}
use Prim.Native.Nat.{ℕ, ◌<◌}
use borrow.Author.Tests.{eqb-true}
use Rattle.std.proofs.lemmas.Result.{err_from_is_err_and}
use Rattle.plan.specs.Causes.{leaves, answer}
use Rattle.plan.specs.Parts.{Given}
use Rattle.plan.proofs.Refusals.{leaves-refused}
use Rattle.plan.proofs.Admitting.{passing, turned-away}
use Rattle.readback.specs.Recovery.{recovered}
use Rattle.readback.specs.Listings.{steps_in, line_of}
use Rattle.readback.proofs.ListingTests.{answer-early}
use Rattle.readback.proofs.calls.read_listing.Goals as goal

pub returns-in_err-plan-clause-answer : goal.returns-in_err-plan-clause-answer
returns-in_err-plan-clause-answer c =
    let p = err_from_is_err_and c.from_residual.result c.from_residual.ensures.1 in
    let alone = turned-away _ _ c.in_err-plan.ensures.answer (λ _. []) in
    let r = turned-away _ _ c.in_err-plan.ensures.answer _ in
    rw (p.1, p.2) (answer-early _ c.args.text.now c.args.beta.now _ alone.0 r.0 r.1)

pub returns-in_err-plan-clause-beta_after : goal.returns-in_err-plan-clause-beta_after
returns-in_err-plan-clause-beta_after c =
    let r = turned-away _ _ c.in_err-plan.ensures.answer _ in
    sym (leaves-refused _ _ _ (subst (λ (n : ℕ). 0 < n) r.0 r.1))

pub read_text-requires : goal.read_text-requires
read_text-requires c = eqb-true _ _ (passing _ _ c.in_ok-plan.plan c.in_ok-plan.ensures).own-fits

pub returns-clause-answer : goal.returns-clause-answer
returns-clause-answer c =
    let own = sym ((passing _ _ c.in_ok-plan.plan c.in_ok-plan.ensures).rest _) in
    c.read_text.ensures.answer ∙ ap (λ (k : ℕ). (answer k [], line_of k c.args.text.now)) own

pub returns-clause-beta_after : goal.returns-clause-beta_after
returns-clause-beta_after c =
    let own = sym ((passing _ _ c.in_ok-plan.plan c.in_ok-plan.ensures).rest _) in
    c.read_text.ensures.beta_after
    ∙ ap₂ (λ (k : ℕ) (G : Given). leaves k (recovered G.numbers (steps_in c.args.text.now)) c.args.beta.now) own c.in_ok-plan.ensures.same
