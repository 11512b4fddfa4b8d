-- `field::zeros::all_zero` meets its contract. The loop's invariant: the first j bytes are there, and are 0. After it they and the last 64 cover
-- the list (`ends`). The measure is what is left of the length. Assumes nothing.
use mathlib.Core.Path.{◌≡◌}
use mathlib.Core.Bool.{true}
use Prim.Native.Nat.{◌-◌, ◌≤◌}
use lib.ListN.{length, take}
use Rattle.field.specs.Rows.{all_below}
use Rattle.field.proofs.zeros.all_zero.Given as goal

abbrev pub invariant-loop-j : goal.invariant-loop-j
invariant-loop-j l = (l.j ≤ length l.xs) × (all_below 1 (take l.j l.xs) ≡ true)

abbrev pub decreases-loop-j : goal.decreases-loop-j
decreases-loop-j l = length l.xs - l.j
