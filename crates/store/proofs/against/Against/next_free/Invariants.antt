-- `store::against::Against::next_free` meets its contract: a is the place of column q on the diagonal, and no column passed has 0 there. Assumes
-- nothing.
use mathlib.Core.Path.{◌≡◌}
use mathlib.Core.Logic.{◌≢◌}
use Prim.Native.Nat.{ℕ, ◌+◌, ◌≤◌, ◌<◌}
use Rattle.store.specs.Elimination.{row_start, cells}
use Rattle.store.proofs.against.Against.next_free.Given as goal

abbrev pub invariant-loop-q : goal.invariant-loop-q
invariant-loop-q l = (l.a ≡ row_start l.self.c l.q + l.q) × ((j : ℕ) → l.from ≤ j → j < l.q → cells l.self.c l.self.store.now j j ≢ 0)
