-- `listing::norm::links_norm` meets its contract: after k links `top` is the largest so far, and link k's weights begin at `begin`.
-- Assumes nothing.
use mathlib.Core.Path.{◌≡◌}
use Prim.Native.Nat.{◌+◌}
use Rattle.lists.specs.Places.{largest}
use Rattle.plan.specs.Parts.{link_start}
use Rattle.listing.specs.Norm as specs
use Rattle.listing.proofs.norm.links_norm.Given as goal

abbrev pub invariant-loop-k : goal.invariant-loop-k
invariant-loop-k l = record {
  place : l.begin ≡ link_start l.plan l.k;
  value : l.top ≡ largest (λ i. specs.squares l.plan.p l.weights (link_start l.plan i) (l.plan.n + i)) l.k;
}
