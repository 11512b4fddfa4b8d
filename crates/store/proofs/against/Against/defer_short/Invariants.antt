-- `store::against::Against::defer_short` meets its contract: row after row is subtracted from e, in 16 bits while there is room (`Deferring`).
-- Assumes nothing.
use Prim.Native.Nat.{◌*◌, ◌<◌}
use Rattle.store.proofs.Deferring.{Held}
use Rattle.store.proofs.against.Against.defer_short.Given as goal

abbrev pub invariant-loop-q : goal.invariant-loop-q
invariant-loop-q l = Held l.self.p l.self.c l.self.store.now l.self.e.now l.q l.begin l.left l.acc l.short × (0 < l.rows) × (l.rows * (l.self.p * l.self.p) < 65536)
