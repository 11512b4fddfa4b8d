-- `store::elimination::clear_row` meets its contract: a row with 0 at its first place stays as it is (`Multiples`). Assumes nothing.
use Rattle.store.proofs.Multiples.{clear_none}
use Rattle.store.proofs.elimination.clear_row.Goals as goal

pub returns-then-f-eq0 : goal.returns-then-f-eq0
returns-then-f-eq0 c =
    clear_none _ _ c.args.pivot.now c.requires.residues.0 c.if-f-eq0.true
