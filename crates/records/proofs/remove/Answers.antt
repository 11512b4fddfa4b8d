-- `records::remove` meets its contract: the records behind the place move down (`Shifting`). Assumes nothing.
use Rattle.std.proofs.Common.{◌∙◌, refl, ap, ◌-◌, List, set}
use Rattle.records.specs.Listed.{none}
use Rattle.records.specs.declared.Record.{Record}
use Rattle.records.proofs.Shifting.{closed}
use Rattle.records.proofs.remove.Goals as goal

pub returns : goal.returns
returns c =
    let a = c.args in
    (refl, ap (λ (l : List Record). set l (a.count - 1) none) c.copy_within.ensures.after ∙ closed a.records.now a.count a.«at» c.requires.0 c.requires.1)
