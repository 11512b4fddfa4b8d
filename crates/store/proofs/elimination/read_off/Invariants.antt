-- `store::elimination::read_off` meets its contract: a loop that writes beta in place (`Overwrite` of lists), with a at the right-hand
-- side of row q. Assumes nothing.
use mathlib.Core.Path.{◌≡◌}
use Prim.Native.Nat.{◌+◌}
use Rattle.lists.proofs.Overwrite.{Written}
use Rattle.store.specs.Elimination.{row_start, cells}
use Rattle.store.proofs.elimination.read_off.Given as goal

abbrev pub invariant-loop-q : goal.invariant-loop-q
invariant-loop-q l = Written l.c (λ i. cells l.c l.store i l.c) l.initial.beta l.q l.beta × (l.a ≡ row_start l.c l.q + l.c)
