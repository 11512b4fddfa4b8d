-- `filing::read_all`: what holds before each chunk; and how many bytes may still be read.
use Rattle.std.proofs.Common.{◌-◌}
use Rattle.text.specs.Held.{state_of}
use Rattle.filing.proofs.Chunks.{Reading}
use Rattle.filing.proofs.read_all.Given as goal

abbrev pub invariant-loop-count : goal.invariant-loop-count
invariant-loop-count g l =
    Reading (g.R.Read.remaining l.initial.from) (g.R.Read.remaining l.from) l.state
    (state_of l.state l.buffers) l.count

abbrev pub decreases-loop-count : goal.decreases-loop-count
decreases-loop-count g l = 4611686018427387904 - l.count
