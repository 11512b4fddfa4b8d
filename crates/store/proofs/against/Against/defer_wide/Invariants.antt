-- `store::against::Against::defer_wide` meets its contract: row after row is subtracted from e (`Deferring`). Assumes nothing.
use mathlib.Core.Path.{◌≡◌}
use Prim.Native.Nat.{◌+◌}
use lib.ListN.{length}
use Rattle.lists.specs.Places.{at}
use Rattle.store.proofs.Deferring.{Subtracted}
use Rattle.store.proofs.against.Against.defer_wide.Given as goal

abbrev pub invariant-loop-q : goal.invariant-loop-q
invariant-loop-q l = Subtracted l.self.p l.self.c l.self.store.now l.self.e.now l.q l.begin (at l.acc) × (length l.acc ≡ l.self.c + 1)
