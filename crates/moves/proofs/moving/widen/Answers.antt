use native.Mathlib.Omega.{arith}
use Rattle.moves.proofs.RowMoves.{widening-none, widening-room, widening-next, widening-all}
use Rattle.moves.proofs.moving.widen.Goals as goal

pub loop-q-init : goal.loop-q-init
loop-q-init c = widening-none _ _ _ c.requires.full_len

pub overflow_add-from_end : goal.overflow_add-from_end
overflow_add-from_end c =
    omega (arith, (widening-room c.loop-q.invariant c.requires.half_len c.loop-q-test.true).0)

pub slice_bounds-widen_row-end : goal.slice_bounds-widen_row-end
slice_bounds-widen_row-end c =
    omega (arith, (widening-room c.loop-q.invariant c.requires.half_len c.loop-q-test.true).1, c.loop-q.invariant.written.same)

pub slice_bounds-widen_row-end-in-loop-q : goal.slice_bounds-widen_row-end-in-loop-q
slice_bounds-widen_row-end-in-loop-q c =
    omega (arith, (widening-room c.loop-q.invariant c.requires.half_len c.loop-q-test.true).0)

pub loop-q-preserved : goal.loop-q-preserved
loop-q-preserved c =
    widening-next c.loop-q.invariant c.requires.half_len c.loop-q-test.true _ c.widen_row.ensures

pub returns : goal.returns
returns c = widening-all c.loop-q.invariant c.loop-q-test.false
