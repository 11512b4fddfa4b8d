use mathlib.Core.Path.{refl, sym, ap₂, ◌∙◌}
use Prim.Native.Nat.{◌+◌}
use native.Mathlib.Nat.{le_refl, one-mul}
use native.Mathlib.Omega.{arith}
use Rattle.lists.specs.Places.{at}
use Rattle.lists.proofs.Overwrite.{written_none, written_next, unwritten, written_all}
use Rattle.field.proofs.rows.pour.Goals as goal

pub loop-j-init : goal.loop-j-init
loop-j-init c = (written_none _ _ _ refl, written_none _ _ _ refl)

pub overflow_add-total : goal.overflow_add-total
overflow_add-total c =
    let loop = c.loop-j in
    let j = loop.j in
    omega (arith, unwritten loop.invariant.0 j (le_refl j), c.requires.headroom j)

pub loop-j-preserved : goal.loop-j-preserved
loop-j-preserved c =
    let loop = c.loop-j in
    let args = c.args in
    let j = loop.j in (
      written_next (at loop.acc j + at loop.short j) loop.invariant.0 (omega arith)
          (ap₂ ◌+◌ (unwritten loop.invariant.0 j (le_refl j)) (unwritten loop.invariant.1 j (le_refl j) ∙ sym (one-mul (at args.short.now j)))),
      written_next 0 loop.invariant.1 (omega arith) refl,
    )

pub returns : goal.returns
returns c = record {
  acc_after = written_all c.loop-j.invariant.0 (omega arith);
  short_after = written_all c.loop-j.invariant.1 (omega arith);
}
