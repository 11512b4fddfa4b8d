-- `store::reduced::take_rows` meets its contract: the rows are taken in order (`TakingRows`), each where the store has it (`HalfReading`).
-- Assumes nothing.
use mathlib.Core.Path.{◌≡◌}
use Prim.Native.Nat.{◌+◌, ◌-◌}
use Rattle.store.specs.Elimination.{row_start}
use Rattle.store.specs.Reading.{state_after, row_of}
use Rattle.store.proofs.TakingRows.{Taken}
use Rattle.store.proofs.reduced.take_rows.Given as goal

abbrev pub invariant-loop-q : goal.invariant-loop-q
invariant-loop-q l = Taken l.c (state_after l.p l.c (row_of l.c l.store)) l.q l.sound l.tops × (l.begin ≡ row_start l.c l.q + l.q)

abbrev pub decreases-loop-q : goal.decreases-loop-q
decreases-loop-q l = l.c - l.q
