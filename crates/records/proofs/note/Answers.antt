-- `records::note` meets its contract. Assumes nothing.
use mathlib.Core.Path.{refl}
use borrow.Author.Tests.{lt-ltb, le-ltb}
use Rattle.records.specs.Listed.{noted}
use Rattle.records.proofs.note.Goals as goal

pub returns-then-i-list : goal.returns-then-i-list
unfolding noted
returns-then-i-list c = rw (lt-ltb _ _ c.if-i-list.true) refl

pub returns-else-i-list : goal.returns-else-i-list
unfolding noted
returns-else-i-list c = rw (le-ltb _ _ c.if-i-list.false) refl
