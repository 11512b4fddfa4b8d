use mathlib.Core.Path.{refl, ap, ◌∙◌}
use Prim.Native.Nat.{ℕ, ◌+◌, ◌*◌, ◌%◌}
use native.Mathlib.Nat.{le_refl}
use native.Mathlib.Omega.{arith}
use Rattle.lists.specs.Places.{at}
use Rattle.lists.proofs.Overwrite.{written_none, written_next, unwritten, written_all}
use Rattle.field.proofs.rows.add_multiple.Goals as goal

pub loop-j-init : goal.loop-j-init
loop-j-init c = written_none _ _ _ refl

pub cell-requires : goal.cell-requires
cell-requires c =
    let loop = c.loop-j in
    let pre = c.requires in
    let reciprocal = c.reciprocal-m in
    let j = loop.j in
    let e = unwritten loop.invariant j (le_refl j) in record {
      modulus = pre.modulus;
      m_value = reciprocal.ensures;
      x_lt_p = (rw e (pre.residues j), pre.residues_2 j, pre.g_le_p);
    }

pub loop-j-preserved : goal.loop-j-preserved
loop-j-preserved c =
    let loop = c.loop-j in
    let args = c.args in
    written_next c.cell.result loop.invariant (omega arith) (c.cell.ensures ∙ ap (λ (x : ℕ). (x + args.g * at args.ys.now loop.j) % args.p) (unwritten loop.invariant loop.j (le_refl loop.j)))

pub returns : goal.returns
returns c = written_all c.loop-j.invariant (omega arith)
