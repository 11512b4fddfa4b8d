-- `store::against::Against::residue` meets its contract: the sum is that of the first i rows (`Freeing`), with a at column q of row i. Assumes
-- nothing.
use mathlib.Core.Path.{◌≡◌}
use Prim.Native.Nat.{◌+◌}
use Rattle.lists.specs.Places.{at}
use Rattle.store.specs.Elimination.{row_start, cells}
use Rattle.store.proofs.Freeing.{column-sum}
use Rattle.store.proofs.against.Against.residue.Given as goal

abbrev pub invariant-loop-i : goal.invariant-loop-i
invariant-loop-i l = (l.a ≡ row_start l.self.c l.i + l.q) × (l.sum ≡ column-sum l.self.p (cells l.self.c l.self.store.now) (at l.self.e.now) l.q l.i)
