-- `readback::recovery::recover_row` meets its contract: a loop that writes a list in place (`Overwrite` of lists) while its numbers are residues.
-- Assumes nothing.
use Prim.Native.Nat.{ℕ, ◌+◌, ◌<◌}
use lib.ListN.{length}
use Rattle.lists.proofs.Overwrite.{Written}
use Rattle.program.specs.Steps.{by_of}
use Rattle.readback.proofs.recovery.recover_row.Given as goal

abbrev pub invariant-loop-j : goal.invariant-loop-j
invariant-loop-j l = record {
  list : Written (length l.initial.row) (λ k. by_of l.steps (l.begin + k)) l.initial.row l.j l.row;
  residues : (k : ℕ) → k < l.j → by_of l.steps (l.begin + k) < l.p;
}
