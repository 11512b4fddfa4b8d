-- `text::stages::header_line` meets its contract: 13 first, then the constructor's refusal, then 14. Assumes nothing.
use Rattle.std.proofs.Common.{refl, sym}
use Rattle.std.proofs.lemmas.Result.{err_from_is_err_and}
use Rattle.plan.proofs.Limits.{accepted-within}
use Rattle.text.proofs.Judging.{header-thirteen, header_refused, header-wide, header-passed}
use Rattle.text.proofs.stages.header_line.Goals as goal

pub returns-then-not-read_line-clause-judgement : goal.returns-then-not-read_line-clause-judgement
returns-then-not-read_line-clause-judgement c = λ R w T d S. header-thirteen _ c.if-not-read_line.ensures.0

pub returns-in_err-plan-clause-judgement : goal.returns-in_err-plan-clause-judgement
returns-in_err-plan-clause-judgement c =
    let p = err_from_is_err_and c.from_residual.result c.from_residual.ensures.1 in
    let asked = c.if-not-read_line.ensures in
    λ R w T d S. rw (p.1, p.2) (header_refused _ _ asked.0 (asked.1 refl) _ c.in_err-plan.ensures)

pub columns-requires : goal.columns-requires
columns-requires c = accepted-within _ _ _ _ _ _ (sym c.in_ok-plan.ensures)

pub returns-then-columns-gt360-clause-judgement : goal.returns-then-columns-gt360-clause-judgement
returns-then-columns-gt360-clause-judgement c =
    let asked = c.if-not-read_line.ensures in
    λ R w T d S. header-wide _ _ asked.0 (asked.1 refl) _ c.in_ok-plan.ensures (rw c.columns.ensures at c.if-columns-gt360.true)

pub returns-clause-fits_after : goal.returns-clause-fits_after
returns-clause-fits_after c = (accepted-within _ _ _ _ _ _ (sym c.in_ok-plan.ensures), rw c.columns.ensures at c.if-columns-gt360.false)

pub returns-clause-judgement : goal.returns-clause-judgement
returns-clause-judgement c =
    let asked = c.if-not-read_line.ensures in
    λ R w T d S. header-passed _ _ asked.0 (asked.1 refl) _ c.in_ok-plan.ensures (rw c.columns.ensures at c.if-columns-gt360.false)
