-- `filing::read_all` meets its contract: each chunk is fed as it is read.
use Rattle.std.proofs.Common.{◌≡◌, length, take, arith}
use Rattle.filing.proofs.Chunks.{fed-none, fed-more}
use Rattle.filing.proofs.read_all.Goals as goal

pub loop-count-init : goal.loop-count-init
loop-count-init g c = record { number = omega (arith, c.start-state.ensures.begins.1); fed = fed-none _ _ (c.start-state.ensures.started _ _ _ _ _ _) }

pub loop-count-preserved : goal.loop-count-preserved
loop-count-preserved g c =
    let after = c.feed-state.ensures in
    let read : c.in-Ok.n ≡ length (take c.in-Ok.n c.read.new.buf) = c.in-Ok.ensures.bound.1 in
    record {
      number = omega (arith, after.line_after, c.loop-count.invariant.number);
      fed = fed-more c.loop-count.invariant.fed _ _ _ read c.in-Ok.ensures.bytes.0 after.pushed;
    }
