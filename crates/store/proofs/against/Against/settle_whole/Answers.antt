-- `store::against::Against::settle_whole` meets its contract: the residual is the local array's front (`Outcomes`), and its first coefficient or its
-- right-hand side says how the equation stands (`Standings`). Assumes nothing.
use mathlib.Core.Path.{sym}
use Prim.Native.Nat.{◌<◌}
use native.Mathlib.Nat.{le_refl}
use native.Mathlib.Omega.{arith}
use Rattle.lists.specs.Places.{at}
use Rattle.store.specs.Elimination.{cells}
use Rattle.store.proofs.Residuals.{residual-small}
use Rattle.store.proofs.Outcomes.{is-left, last-at, lead-room, lead-length, lead-found, lead-missing}
use Rattle.store.proofs.Standings.{free-answer, forced-answer}
use Rattle.store.proofs.against.Against.settle_whole.Goals as goal

pub slice_bounds-res-end-2 : goal.slice_bounds-res-end-2
slice_bounds-res-end-2 c =
    let left = is-left _ _ _ _ _ c.residual.ensures in
    lead-room left _

pub slice_bounds-lead-end : goal.slice_bounds-lead-end
slice_bounds-lead-end c =
    let left = is-left _ _ _ _ _ c.residual.ensures in
    sym (lead-length left _)

pub returns-in-Some : goal.returns-in-Some
returns-in-Some c =
    let left = is-left _ _ _ _ _ c.residual.ensures in
    let found = lead-found left _ _ c.in-Some.ensures in
    free-answer _ _ _ _ _ found.1.lead_is found.0

pub opposite-requires : goal.opposite-requires
opposite-requires c =
    let left = is-left _ _ _ _ _ c.residual.ensures in
    let self = c.args.self.now in
    let pos : 0 < self.p = omega (arith, c.args.self.now.ready.modulus.0) in
    rw (last-at left _) (residual-small self.p self.c (cells self.c self.store.now) (at self.e.now) self.c pos)

pub returns-in-None : goal.returns-in-None
returns-in-None c =
    let left = is-left _ _ _ _ _ c.residual.ensures in
    let none = lead-missing left _ c.in-None.ensures in
    forced-answer _ _ _ _ _ none.lead_is (le_refl _) _ _ (last-at left _) c.opposite.ensures
