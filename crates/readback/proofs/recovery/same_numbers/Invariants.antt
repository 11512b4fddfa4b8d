-- `readback::recovery::same_numbers` meets its contract: the lists are equal exactly when no difference was met before place i and they are equal
-- from there on (`Comparing`). Assumes nothing.
use mathlib.Core.Path.{◌≡◌}
use mathlib.Core.Bool.{◌&&◌}
use lib.ListN.{drop}
use Rattle.lists.specs.Places.{same}
use Rattle.readback.proofs.recovery.same_numbers.Given as goal

abbrev pub invariant-loop-i : goal.invariant-loop-i
invariant-loop-i l = same l.xs l.ys ≡ (l.equal && same (drop l.i l.xs) (drop l.i l.ys))
