-- `moves::reduced::take_full_rows` meets its contract: the rows are taken in order (`TakingRows` of `store`), each where the store has it (`FullReading`).
-- Assumes nothing.
use mathlib.Core.Path.{◌≡◌}
use Prim.Native.Nat.{◌+◌, ◌*◌}
use lib.ListN.{drop}
use Rattle.store.proofs.TakingRows.{Taken}
use Rattle.moves.specs.FullRows.{full_after}
use Rattle.moves.proofs.reduced.take_full_rows.Given as goal

abbrev pub invariant-loop-q : goal.invariant-loop-q
invariant-loop-q l =
    Taken l.c (full_after l.p l.c l.full) l.q-iterator.count l.sound l.tops
    × (l.q-iterator.iter.rest.now ≡ drop (l.q-iterator.count * (l.c + 1)) l.full)
    × (l.q-iterator.iter.size ≡ l.c + 1)
