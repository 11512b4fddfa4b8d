-- `field::rows::add_multiple` meets its contract: an in-place loop over `cell` (`Overwrite` of lists). Assumes nothing.
use Prim.Native.Nat.{◌+◌, ◌*◌, ◌%◌}
use lib.ListN.{length}
use Rattle.lists.specs.Places.{at}
use Rattle.lists.proofs.Overwrite.{Written}
use Rattle.field.proofs.rows.add_multiple.Given as goal

abbrev pub invariant-loop-j : goal.invariant-loop-j
invariant-loop-j l = Written (length l.initial.xs) (λ k. (at l.initial.xs k + l.g * at l.ys k) % l.p) l.initial.xs l.j l.xs
