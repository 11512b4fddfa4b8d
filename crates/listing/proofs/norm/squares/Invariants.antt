-- `listing::norm::squares` meets its contract: the running total is the sum of the squares so far, at most 127 * 127 for each (`NormLimit`).
-- Assumes nothing.
use mathlib.Core.Path.{◌≡◌}
use Prim.Native.Nat.{◌*◌, ◌≤◌}
use Rattle.listing.specs.Norm as specs
use Rattle.listing.proofs.norm.squares.Given as goal

abbrev pub invariant-loop-w : goal.invariant-loop-w
invariant-loop-w l = record {
  value : l.total ≡ specs.squares l.p l.row 0 l.w-index;
  small : l.total ≤ l.w-index * 16129;
}
