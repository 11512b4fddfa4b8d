-- `moves::moving::widen` meets its contract: row after row is written (`RowMoves`). Assumes nothing.
use Rattle.moves.proofs.RowMoves.{Widening}
use Rattle.moves.proofs.moving.widen.Given as goal

abbrev pub invariant-loop-q : goal.invariant-loop-q
invariant-loop-q l = Widening l.c l.half l.initial.full l.q l.from l.full
