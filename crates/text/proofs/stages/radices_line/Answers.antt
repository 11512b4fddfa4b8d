-- `text::stages::radices_line` meets its contract: the radices are the front of their buffer. Assumes nothing.
use Rattle.std.proofs.Common.{ap, ◌∙◌, ℕ, arith}
use Rattle.std.proofs.lemmas.Result.{err_from_is_err_and}
use lib.Seq.{length-take-le}
use Rattle.plan.specs.Causes.{first}
use Rattle.text.specs.Meaning.{radices_causes, next, judged}
use Rattle.text.proofs.Judging.{stops, radices-reaches}
use Rattle.text.proofs.stages.radices_line.Goals as goal

pub returns-in_err-read_radices-clause-judgement : goal.returns-in_err-read_radices-clause-judgement
unfolding judged
returns-in_err-read_radices-clause-judgement c =
    let p = err_from_is_err_and c.from_residual.result c.from_residual.ensures.1 in
    let size = length-take-le c.args.plan.n c.args.radices.now (omega (arith, c.requires.fits.0.variable-limit, c.requires.in_bounds)) in
    λ w T d S. rw (p.1, p.2) (stops _ _ _ (c.in_err-read_radices.ensures.refusal ∙ ap (λ (n : ℕ). first (radices_causes n c.args.plan.p c.args.line.now)) size))

pub returns-clause-judgement : goal.returns-clause-judgement
returns-clause-judgement c =
    let size = length-take-le c.args.plan.n c.args.radices.now (omega (arith, c.requires.fits.0.variable-limit, c.requires.in_bounds)) in
    let accepted = c.in_ok-read_radices.ensures.refusal ∙ ap (λ (n : ℕ). first (radices_causes n c.args.plan.p c.args.line.now)) size in
    λ w T d S. ap next (c.after_links.ensures.place _ w T d S)
    ∙ radices-reaches c.args.plan _ _ _ accepted (c.read_radices.auto.radices ∙ size) c.in_ok-read_radices.ensures.radices_after
