-- `field::residues::inverse` meets its contract: power times base to the e stays a to the p - 2 modulo p (`Powers`). Assumes nothing.
use mathlib.Core.Path.{◌≡◌}
use Prim.Native.Nat.{◌-◌, ◌*◌, ◌%◌, ◌^◌, ◌<◌}
use Rattle.field.proofs.residues.inverse.Given as goal

abbrev pub invariant-loop-e : goal.invariant-loop-e
invariant-loop-e l = (l.power < l.p) × (l.base < l.p) × ((l.power * l.base ^ l.e) % l.p ≡ l.a ^ (l.p - 2) % l.p)

abbrev pub decreases-loop-e : goal.decreases-loop-e
decreases-loop-e l = l.e
