-- `listing::norm::short_side` meets its contract: the smaller of w and p - w is p - w where w is above the middle, and else w.
-- Assumes nothing.
use Prim.Native.Nat.{◌-◌, ◌/◌}
use native.Mathlib.Decide.{dec_lt}
use native.Mathlib.Omega.{arith}
use borrow.Author.Tests.{lt-ltb, le-ltb}
use Rattle.listing.specs.Norm.{short}
use Rattle.listing.proofs.norm.short_side.Goals as goal

pub returns : goal.returns
unfolding short
returns c =
    let s = c.args in
    elim (dec_lt ((s.p - 1) / 2) s.w) [
      | yes above ↦ rw (lt-ltb ((s.p - 1) / 2) s.w above) (omega (arith, c.min.ensures))
      | no below ↦ rw (le-ltb ((s.p - 1) / 2) s.w (omega arith)) (omega (arith, c.min.ensures))
    ]
