-- `listing::norm::rows_norm` meets its contract: after b rows `top` is the largest so far. Assumes nothing.
use mathlib.Core.Path.{◌≡◌}
use Prim.Native.Nat.{◌*◌}
use Rattle.lists.specs.Places.{largest}
use Rattle.listing.specs.Norm as specs
use Rattle.listing.proofs.norm.rows_norm.Given as goal

abbrev pub invariant-loop-b : goal.invariant-loop-b
invariant-loop-b live = live.top ≡ largest (λ i. specs.squares live.p live.ws (i * live.l) live.l) live.b
