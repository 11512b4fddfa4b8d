use mathlib.Core.Path.{◌≡◌, refl, sym, ap, ◌∙◌}
use mathlib.Core.List.{◌++◌}
use Prim.Native.Nat.{◌+◌, ◌*◌}
use native.Mathlib.Nat.{zero-mul}
use native.Mathlib.Omega.{arith}
use lib.ListN.{length, drop}
use Rattle.store.specs.Reading.{State}
use Rattle.store.proofs.RowTests.{counted-length}
use Rattle.store.proofs.TakingRows.{Taken, taken_none, taken_next, taken-all, columns-lent}
use Rattle.moves.specs.FullRows.{full_row, full_took, full_after}
use Rattle.moves.proofs.FullChunks.{chunk-row, chunk-rest, chunk-within, chunks-all}
use Rattle.moves.proofs.FullReading.{full-next}
use Rattle.moves.proofs.reduced.take_full_rows.Goals as goal

pub loop-q-init : goal.loop-q-init
unfolding full_after
loop-q-init c =
    let all = c.chunks_exact.ensures in
    rw (c.into_iter-q-iterator.ensures.into_iter_gives, c.enumerate-q-items.ensures.source, c.enumerate-q-items.ensures.count, zero-mul)
    (taken_none refl c.requires.tops_value, all.rest, all.size)

pub loop-q-preserved : goal.loop-q-preserved
loop-q-preserved c =
    let p = c.args.p in
    let C = c.args.c in
    let full = c.args.full.now in
    let q = c.in-Some.q in
    let row = c.in-Some.row.now in
    let rest = c.next.new.self.iter.rest.now in
    let steps = c.in-Some.ensures.steps in
    let inv = c.loop-q.invariant in
    let count : length row ≡ C + 1 = steps.0.1.1 ∙ inv.2 in
    let cut : drop (q * (C + 1)) full ≡ row ++ rest = rw steps.1 (sym inv.1 ∙ steps.0.1.0) in
    let state : Taken C (full_after p C full) q c.loop-q.sound c.loop-q.tops = rw steps.1 inv.0 in
    let next : c.next.new.self.count ≡ q + 1 = omega (arith, steps.1, steps.2) in
    let took = c.take_full_row-sound in
    rw next (
      taken_next state (chunk-within C full q row rest cut count c.requires.full_len state.within) _ took.new.tops (λ (s : State). full_took p q s (full_row C full q))
          (ap length took.ensures.tops_after_2 ∙ counted-length _ _ ∙ columns-lent state)
          (took.ensures.tops_after ∙ ap (full_took p q _) (chunk-row C full q row rest cut count))
          (full-next C full p q),
      chunk-rest C full q row rest cut count,
      steps.0.0 ∙ inv.2,
    )

pub returns : goal.returns
returns c =
    let inv = c.loop-q.invariant in
    let steps = c.in-None.ensures.steps in
    record {
      tops_len = inv.0.places;
      tops_after = taken-all inv.0 (chunks-all c.args.c c.args.full.now c.loop-q.q-iterator.count c.requires.full_len (rw (sym inv.1, sym inv.2) steps.0.1.0));
    }
