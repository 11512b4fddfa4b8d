-- `text::stages::weights_line` meets its contract. Assumes nothing.
use Rattle.std.proofs.Common.{arith}
use Rattle.std.proofs.lemmas.Result.{err_from_is_err_and}
use Rattle.text.specs.Meaning.{judged}
use Rattle.text.proofs.Judging.{stops, weights-reaches}
use Rattle.text.proofs.stages.weights_line.Goals as goal

pub returns-in_err-part_line-clause-judgement : goal.returns-in_err-part_line-clause-judgement
unfolding judged
returns-in_err-part_line-clause-judgement c =
    let p = err_from_is_err_and c.from_residual.result c.from_residual.ensures.1 in
    λ R T d S. rw (p.1, p.2) (stops _ _ _ c.in_err-part_line.ensures.refusal)

pub returns-clause-judgement : goal.returns-clause-judgement
returns-clause-judgement c =
    let accepted = c.in_ok-part_line.ensures in
    λ R T d S. weights-reaches c.args.filled c.args.k R _ T d _ _ accepted.refusal (omega (arith, c.requires)) accepted.buffer_after
