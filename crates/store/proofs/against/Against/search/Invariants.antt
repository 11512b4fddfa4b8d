-- `store::against::Against::search` meets its contract: each column passed has a pivot, or its residue is 0 (`Freeing`). Assumes nothing.
use mathlib.Core.Path.{◌≡◌}
use Prim.Native.Nat.{ℕ, ◌-◌, ◌≤◌, ◌<◌}
use Rattle.lists.specs.Places.{at}
use Rattle.store.specs.Elimination.{residual, cells}
use Rattle.store.proofs.against.Against.search.Given as goal

abbrev pub invariant-loop-q : goal.invariant-loop-q
invariant-loop-q l = (l.from ≤ l.self.c) × ((j : ℕ) → j < l.from → residual l.self.p l.self.c (cells l.self.c l.self.store.now) (at l.self.e.now) j ≡ 0)

abbrev pub decreases-loop-q : goal.decreases-loop-q
decreases-loop-q l = l.self.c - l.from
