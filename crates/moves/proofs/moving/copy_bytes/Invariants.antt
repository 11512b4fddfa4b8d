-- `moves::moving::copy_bytes` meets its contract: the first bytes are written (`Written` of `lists`). Assumes nothing.
use Rattle.std.proofs.Common.{length}
use Rattle.lists.specs.Places.{at}
use Rattle.lists.proofs.Overwrite.{Written}
use Rattle.moves.proofs.moving.copy_bytes.Given as goal

abbrev pub invariant-loop-j : goal.invariant-loop-j
invariant-loop-j l = Written (length l.bytes) (at l.bytes) l.initial.out l.j l.out
