-- `field::rows::raise_pieces` meets its contract: a loop over pieces, each of which begins where the one before it ended (`Raising`).
-- Assumes nothing.
use Prim.Native.Nat.{◌*◌}
use lib.ListN.{length}
use Rattle.field.proofs.Raising.{Raised}
use Rattle.field.proofs.rows.raise_pieces.Given as goal

abbrev pub invariant-loop-k : goal.invariant-loop-k
invariant-loop-k g l = Raised (length l.initial.tops) l.xs l.initial.tops (l.k * g.row.N) l.tops
