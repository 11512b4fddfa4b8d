-- `field::rows::raise` meets its contract: an in-place loop over the larger of two (`Overwrite` of lists). Assumes nothing.
use Prim.Native.Nat.{max}
use lib.ListN.{length}
use Rattle.lists.specs.Places.{at}
use Rattle.lists.proofs.Overwrite.{Written}
use Rattle.field.proofs.rows.raise.Given as goal

abbrev pub invariant-loop-j : goal.invariant-loop-j
invariant-loop-j l = Written (length l.initial.tops) (λ k. max (at l.initial.tops k) (at l.xs k)) l.initial.tops l.j l.tops
