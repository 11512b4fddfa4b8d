-- `moves::moving::halve` meets its contract: row after row is written (`RowMoves`), each cut from the front of what is left (`FullChunks`).
-- Assumes nothing.
use mathlib.Core.Path.{◌≡◌}
use Prim.Native.Nat.{◌+◌, ◌*◌}
use lib.ListN.{drop}
use Rattle.moves.proofs.RowMoves.{Halving}
use Rattle.moves.proofs.moving.halve.Given as goal

abbrev pub invariant-loop-q : goal.invariant-loop-q
invariant-loop-q l =
    Halving l.c l.full l.initial.half l.q-iterator.count l.to l.half
    × (l.q-iterator.iter.rest.now ≡ drop (l.q-iterator.count * (l.c + 1)) l.full)
    × (l.q-iterator.iter.size ≡ l.c + 1)
