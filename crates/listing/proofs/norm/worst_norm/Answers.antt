-- `listing::norm::worst_norm` meets its contract: what `admit` refuses, else 5 for β, else the norm. Assumes nothing.
use mathlib.Core.Path.{sym, ap, ◌∙◌}
use mathlib.Core.List.{[], ◌∷◌}
use native.Mathlib.Omega.{arith}
use borrow.Author.Tests.{eqb-true}
use Rattle.std.proofs.lemmas.Result.{err_from_is_err_and}
use Rattle.field.proofs.Ranges.{residues-of}
use Rattle.plan.specs.Causes.{gives}
use Rattle.plan.specs.Parts.{Given}
use Rattle.plan.proofs.Bounds.{prime-low}
use Rattle.plan.proofs.Refusals.{refused-answer, given-answer}
use Rattle.plan.proofs.Admitting.{passing, turned-away}
use Rattle.listing.specs.Norm.{worst}
use Rattle.listing.proofs.norm.worst_norm.Goals as goal

pub returns-in_err-plan : goal.returns-in_err-plan
returns-in_err-plan c =
    let r = turned-away _ _ c.in_err-plan.ensures.answer _ in
    let p = err_from_is_err_and c.from_residual.result c.from_residual.ensures.1 in
    rw (p.1, p.2) (refused-answer _ _ _ r.0 r.1)

pub returns-then-not-all_below : goal.returns-then-not-all_below
returns-then-not-all_below c =
    refused-answer 5 _ _ (sym ((passing _ _ c.in_ok-plan.plan c.in_ok-plan.ensures).rest _ ∙ rw (sym c.if-not-all_below.ensures))) (omega arith)

pub worst-requires-clause-beta_len : goal.worst-requires-clause-beta_len
worst-requires-clause-beta_len c =
    let plan = c.in_ok-plan.plan in
    let below = sym c.if-not-all_below.ensures in
    (eqb-true _ _ (passing _ _ plan c.in_ok-plan.ensures).own-fits, residues-of _ _ (omega (arith, prime-low plan.within)) below)

pub returns : goal.returns
returns c =
    let rest = (passing _ _ c.in_ok-plan.plan c.in_ok-plan.ensures).rest in
    rw c.worst.ensures (ap (λ (G : Given). gives (worst G.numbers G.weights G.products c.args.beta.now ∷ [])) c.in_ok-plan.ensures.same)
    ∙ given-answer _ _ (rest _ ∙ rw (sym c.if-not-all_below.ensures))
