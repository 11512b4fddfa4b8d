use mathlib.Core.Path.{refl, sym}
use Prim.Native.Nat.{◌+◌, ◌≤◌, ◌<◌}
use native.Mathlib.Decide.{ℕ_discrete}
use native.Mathlib.Omega.{arith}
use lib.ListN.{length}
use Rattle.lists.proofs.Overwrite.{written_none, written_next, written_all}
use Rattle.program.specs.Steps.{by_of}
use Rattle.readback.proofs.Recovering.{row_below, row-refuted}
use Rattle.readback.proofs.recovery.recover_row.Goals as goal

pub loop-j-init : goal.loop-j-init
loop-j-init c = record { list = written_none _ _ _ refl; residues = λ k l. absurd (omega arith) }

pub returns-then-from-by-clause-value : goal.returns-then-from-by-clause-value
returns-then-from-by-clause-value c =
    let a = c.args in
    let loop = c.loop-j in
    let inside : loop.j < length a.row.now = omega (arith, loop.invariant.list.same, c.loop-j-test.true) in
    sym (row-refuted a.p (length a.row.now) (λ k. by_of a.steps.now (a.begin + k)) loop.j inside (omega (arith, c.from.ensures, c.if-from-by.true)))

pub loop-j-preserved : goal.loop-j-preserved
loop-j-preserved c =
    let a = c.args in
    let loop = c.loop-j in
    let here : by_of a.steps.now (a.begin + loop.j) < a.p = omega (arith, c.from.ensures, c.if-from-by.false) in record {
      list = written_next _ loop.invariant.list (omega (arith, loop.invariant.list.same, c.loop-j-test.true)) refl;
      residues = λ k l. elim (ℕ_discrete k loop.j) [
        | yes e ↦ rw e here
        | no d ↦ loop.invariant.residues k (omega arith)
      ];
    }

pub returns : goal.returns
returns c =
    let a = c.args in
    let loop = c.loop-j in
    let full : length a.row.now ≤ loop.j = omega (arith, loop.invariant.list.same, c.loop-j-test.false) in record {
      value = sym (row_below a.p (length a.row.now) (λ j. by_of a.steps.now (a.begin + j)) (λ j l. loop.invariant.residues j (omega (arith, full))));
      row_after = λ _. written_all loop.invariant.list full;
    }
