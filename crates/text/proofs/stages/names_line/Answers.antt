-- `text::stages::names_line` meets its contract. Assumes nothing.
use Rattle.text.proofs.Entering.{names-thirteen, names-passed, unlike, alike}
use Rattle.text.proofs.stages.names_line.Goals as goal

pub returns-then-ne-clause-judgement : goal.returns-then-ne-clause-judgement
returns-then-ne-clause-judgement c = λ R w T d S. names-thirteen _ (unlike _ _ _ c.as_slice.ensures c.if-ne.ensures)

pub returns-clause-judgement : goal.returns-clause-judgement
returns-clause-judgement c = λ R w T d S. names-passed _ (alike _ _ _ c.as_slice.ensures c.if-ne.ensures)
