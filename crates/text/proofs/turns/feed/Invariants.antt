-- `text::turns::feed` meets its contract: the bytes so far are pushed. Assumes nothing.
use Rattle.text.proofs.Turning.{Feeding}
use Rattle.text.proofs.turns.feed.Given as goal

abbrev pub invariant-loop-x : goal.invariant-loop-x
invariant-loop-x l = Feeding l.chunk l.initial.buffers l.initial.now l.x-index l.buffers l.now
