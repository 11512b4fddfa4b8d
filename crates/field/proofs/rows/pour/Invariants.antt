-- `field::rows::pour` meets its contract: a loop that writes two lists in place (`Overwrite` of lists). Assumes nothing.
use Prim.Native.Nat.{◌+◌, ◌*◌}
use lib.ListN.{length}
use Rattle.lists.specs.Places.{at}
use Rattle.lists.proofs.Overwrite.{Written}
use Rattle.field.proofs.rows.pour.Given as goal

abbrev pub invariant-loop-j : goal.invariant-loop-j
invariant-loop-j l = Written (length l.initial.acc) (λ k. at l.initial.acc k + 1 * at l.initial.short k) l.initial.acc l.j l.acc × Written (length l.initial.short) (λ _. 0) l.initial.short l.j l.short
