use mathlib.Core.Path.{◌≡◌, sym, ◌∙◌}
use mathlib.Core.List.{◌++◌}
use Prim.Native.Nat.{◌+◌, ◌*◌, ◌<◌}
use native.Mathlib.Nat.{zero-mul}
use native.Mathlib.Omega.{arith}
use lib.ListN.{length, drop}
use Rattle.moves.proofs.FullChunks.{chunk-row, chunk-rest, chunk-within, chunks-all}
use Rattle.moves.proofs.RowMoves.{Halving, halving-none, halving-room, halving-next, halving-all}
use Rattle.moves.proofs.moving.halve.Goals as goal

pub loop-q-init : goal.loop-q-init
loop-q-init c =
    let all = c.chunks_exact.ensures in
    rw (c.into_iter-q-iterator.ensures.into_iter_gives, c.enumerate-q-items.ensures.source, c.enumerate-q-items.ensures.count, zero-mul)
    (halving-none _ _ _ c.requires.half_len, all.rest, all.size)

pub slice_bounds-copy_bytes-end : goal.slice_bounds-copy_bytes-end
slice_bounds-copy_bytes-end c =
    let steps = c.in-Some.ensures.steps in
    let inv = c.loop-q.invariant in
    let near = chunk-within c.args.c c.args.full.now c.loop-q.q-iterator.count c.in-Some.row.now _ (sym inv.1 ∙ steps.0.1.0) (steps.0.1.1 ∙ inv.2) c.requires.full_len inv.0.within in
    omega (arith, halving-room inv.0 near, steps.1, inv.0.written.same)

pub loop-q-preserved : goal.loop-q-preserved
loop-q-preserved c =
    let C = c.args.c in
    let full = c.args.full.now in
    let q = c.in-Some.q in
    let row = c.in-Some.row.now in
    let rest = c.next.new.self.iter.rest.now in
    let steps = c.in-Some.ensures.steps in
    let inv = c.loop-q.invariant in
    let count : length row ≡ C + 1 = steps.0.1.1 ∙ inv.2 in
    let cut : drop (q * (C + 1)) full ≡ row ++ rest = rw steps.1 (sym inv.1 ∙ steps.0.1.0) in
    let done : Halving C full c.args.half.now q c.loop-q.to c.loop-q.half = rw steps.1 inv.0 in
    let next : c.next.new.self.count ≡ q + 1 = omega (arith, steps.1, steps.2) in
    let near : q < C = chunk-within C full q row rest cut count c.requires.full_len done.within in
    rw next (
      halving-next done near row (chunk-row C full q row rest cut count) count _ c.copy_bytes.ensures,
      chunk-rest C full q row rest cut count,
      steps.0.0 ∙ inv.2,
    )

pub returns : goal.returns
returns c =
    let inv = c.loop-q.invariant in
    let steps = c.in-None.ensures.steps in
    halving-all inv.0 (chunks-all c.args.c c.args.full.now c.loop-q.q-iterator.count c.requires.full_len (rw (sym inv.1, sym inv.2) steps.0.1.0))
