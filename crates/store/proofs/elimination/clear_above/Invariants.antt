-- `store::elimination::clear_above` meets its contract: row after row above row k is cleared (`Clearing`). Assumes nothing.
use Rattle.lists.specs.Places.{at}
use Rattle.store.specs.Elimination.{cells}
use Rattle.store.proofs.Clearing.{Cleared}
use Rattle.store.proofs.elimination.clear_above.Given as goal

abbrev pub invariant-loop-r : goal.invariant-loop-r
invariant-loop-r l = Cleared l.p l.c (cells l.c l.initial.store) (at l.pivot) l.k l.r l.begin l.store
