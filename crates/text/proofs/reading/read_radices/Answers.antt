-- `text::reading::read_radices` meets its contract: the radices are read into a local array, tested, and then put into their place. Assumes
-- nothing.
use Rattle.std.proofs.Common.{ℕ, ◌+◌, ◌∙◌}
use Rattle.std.proofs.lemmas.Result.{err_from_is_err_and}
use mathlib.Core.Path.{ap₂}
use lib.Seq.{length-take-le}
use Rattle.plan.specs.Causes.{first}
use Rattle.text.specs.Progress.{below_causes}
use Rattle.text.proofs.Parting.{radices-refused}
use Rattle.text.proofs.reading.read_radices.Goals as goal

pub returns-in_err-read_below-clause-refusal : goal.returns-in_err-read_below-clause-refusal
returns-in_err-read_below-clause-refusal c =
    let p = err_from_is_err_and c.from_residual.result c.from_residual.ensures.1 in
    let size = length-take-le _ _ c.requires.radices_len_bound in
    let refusal = c.in_err-read_below.ensures.refusal ∙ ap₂ (λ (n q : ℕ). first (below_causes n (q + 1) 2 c.args.line.now)) size c.from.ensures in
    rw (p.1, p.2) (radices-refused _ _ _ _ refusal)
