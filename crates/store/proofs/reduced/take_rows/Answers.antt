use mathlib.Core.Path.{refl, ap, ◌∙◌}
use Prim.Native.Nat.{◌+◌, ◌-◌, ◌≤◌}
use native.Mathlib.Omega.{arith}
use lib.ListN.{length}
use Rattle.store.specs.Reading.{State, took, state_after, row_of}
use Rattle.store.proofs.RowStarts.{start-zero}
use Rattle.store.proofs.RowTests.{counted-length}
use Rattle.store.proofs.OneReading.{after_next}
use Rattle.store.proofs.HalfReading.{row_room, row_cut, row_next}
use Rattle.store.proofs.TakingRows.{taken_none, taken_next, columns-lent}
use Rattle.store.proofs.reduced.take_rows.Goals as goal

pub loop-q-init : goal.loop-q-init
unfolding state_after
loop-q-init c =
    (taken_none refl c.requires.tops_value, omega (arith, start-zero c.args.c))

pub overflow_add-end : goal.overflow_add-end
overflow_add-end c =
    let ends : let start = c in
    c.loop-q.begin + (start.args.c + 1 - c.loop-q.q) ≤ length start.args.store.now =
    (let start = c in
    row_room start.args.c start.args.store.now c.loop-q.q c.loop-q.begin c.loop-q.invariant.1 start.requires.store_len c.loop-q-test.true) in
    omega (arith, ends)

pub slice_bounds-take_row-end-in-loop-q : goal.slice_bounds-take_row-end-in-loop-q
slice_bounds-take_row-end-in-loop-q c =
    let ends : let start = c in
    c.loop-q.begin + (start.args.c + 1 - c.loop-q.q) ≤ length start.args.store.now =
    (let start = c in
    row_room start.args.c start.args.store.now c.loop-q.q c.loop-q.begin c.loop-q.invariant.1 start.requires.store_len c.loop-q-test.true) in
    ends

pub loop-q-preserved : goal.loop-q-preserved
loop-q-preserved c =
    let turn = c in
    let start = turn in
    let C = start.args.c in
    let store = start.args.store.now in
    let loop = turn.loop-q in
    let state = loop.invariant.0 in
    let row = c.take_row-sound in (
      taken_next state turn.loop-q-test.true _ row.new.tops (λ (s : State). took start.args.p s (row_of C store loop.q))
          (ap length row.ensures.tops_after_2 ∙ counted-length _ _ ∙ columns-lent state)
          (row.ensures.tops_after ∙ ap (took start.args.p _) (row_cut C store loop.q loop.begin loop.invariant.1))
          (after_next start.args.p C (row_of C store) loop.q),
      row_next C store loop.q loop.begin loop.invariant.1 turn.loop-q-test.true,
    )
