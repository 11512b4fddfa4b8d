-- `text::turns::judge` meets its contract. Assumes nothing.
use Rattle.text.proofs.turns.judge.Goals as goal

pub returns-in-Entries-clause-judgement : goal.returns-in-Entries-clause-judgement
returns-in-Entries-clause-judgement c = rw c.in-Entries.is c.entries_line.ensures.judgement
