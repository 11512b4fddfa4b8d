-- `program::calls::run` meets its contract: what `admit` refuses, else 11 and 12, else the run's answer. Assumes nothing.
use mathlib.Core.Path.{◌≡◌, sym, ap, ◌∙◌}
use mathlib.Core.Bool.{true, false}
use mathlib.Core.List.{[], ◌∷◌}
use native.Mathlib.Omega.{arith}
use borrow.Author.Tests.{eqb-true}
use Rattle.std.proofs.lemmas.Result.{err_from_is_err_and}
use Rattle.plan.specs.Causes.{gives}
use Rattle.plan.specs.Parts.{Given}
use Rattle.plan.proofs.Admitting.{passing, turned-away}
use Rattle.plan.proofs.Refusals.{refused-answer, given-answer}
use Rattle.program.specs.Steps.{well_formed, output, bootstraps}
use Rattle.program.specs.Calls.{digits_fit}
use Rattle.program.proofs.Answers.{digit-residues}
use Rattle.program.proofs.calls.run.Goals as goal

pub returns-in_err-plan : goal.returns-in_err-plan
returns-in_err-plan c =
    let r = turned-away _ _ c.in_err-plan.ensures.answer _ in
    let p = err_from_is_err_and c.from_residual.result c.from_residual.ensures.1 in
    rw (p.1, p.2) (refused-answer _ _ _ r.0 r.1)

pub returns-then-not-well_formed : goal.returns-then-not-well_formed
returns-then-not-well_formed c =
    let bad : well_formed c.in_ok-plan.plan.numbers c.args.steps.now ≡ false = sym c.if-not-well_formed.ensures in
    refused-answer 11 _ _ (sym ((passing _ _ c.in_ok-plan.plan c.in_ok-plan.ensures).rest _ ∙ rw bad)) (omega arith)

pub digits_fit-requires : goal.digits_fit-requires
digits_fit-requires c =
    let plan = c.in_ok-plan.plan in
    plan.lent.radices.count ∙ sym (eqb-true _ _ (passing _ _ plan c.in_ok-plan.ensures).own-fits)

pub returns-then-not-digits_fit : goal.returns-then-not-digits_fit
returns-then-not-digits_fit c =
    let good : well_formed c.in_ok-plan.plan.numbers c.args.steps.now ≡ true = sym c.if-not-well_formed.ensures in
    let bad : digits_fit c.in_ok-plan.plan.radices.now c.args.digits.now ≡ false = sym c.if-not-digits_fit.ensures in
    refused-answer 12 _ _ (sym ((passing _ _ c.in_ok-plan.plan c.in_ok-plan.ensures).rest _ ∙ rw (good, bad))) (omega arith)

pub run_steps-requires-clause-digits_len : goal.run_steps-requires-clause-digits_len
run_steps-requires-clause-digits_len c =
    let plan = c.in_ok-plan.plan in
    let size = eqb-true _ _ (passing _ _ plan c.in_ok-plan.ensures).own-fits in
    (size, digit-residues _ _ _ plan.within plan.lent.radices size (sym c.if-not-digits_fit.ensures))

pub returns : goal.returns
returns c =
    let plan = c.in_ok-plan.plan in
    let good : well_formed plan.numbers c.args.steps.now ≡ true = sym c.if-not-well_formed.ensures in
    let below : digits_fit plan.radices.now c.args.digits.now ≡ true = sym c.if-not-digits_fit.ensures in
    ap gives c.run_steps.ensures
    ∙ ap (λ (G : Given). gives (output G.numbers G.tables c.args.steps.now c.args.digits.now ∷ bootstraps c.args.steps.now ∷ [])) c.in_ok-plan.ensures.same
    ∙ given-answer _ _ ((passing _ _ plan c.in_ok-plan.ensures).rest _ ∙ rw (good, below))
