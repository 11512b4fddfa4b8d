-- `field::rows::reduce` meets its contract: a loop over `remainder` that writes out in place (`Overwrite` of lists). Assumes nothing.
use Prim.Native.Nat.{◌%◌}
use lib.ListN.{length}
use Rattle.lists.specs.Places.{at}
use Rattle.lists.proofs.Overwrite.{Written}
use Rattle.field.proofs.rows.reduce.Given as goal

abbrev pub invariant-loop-j : goal.invariant-loop-j
invariant-loop-j l = Written (length l.acc) (λ k. at l.acc k % l.p) l.initial.out l.j l.out
