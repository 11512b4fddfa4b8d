use mathlib.Core.Path.{sym, ap, ◌∙◌}
use Prim.Native.Nat.{ℕ, ◌%◌}
use native.Mathlib.Nat.{zero-add}
use native.Mathlib.Omega.{arith}
use Rattle.lists.proofs.Overwrite.{written_none, written_next, written_all}
use Rattle.field.proofs.rows.set_multiple.Goals as goal

pub loop-j-init : goal.loop-j-init
loop-j-init c =
    let pre = c.requires in
    written_none _ _ _ (sym pre.ys_len)

pub cell-requires : goal.cell-requires
cell-requires c =
    let pre = c.requires in
    let reciprocal = c.reciprocal-m in record {
      modulus = pre.modulus;
      m_value = reciprocal.ensures;
      x_lt_p = (omega arith, pre.residues c.loop-j.j, pre.g_le_p);
    }

pub loop-j-preserved : goal.loop-j-preserved
loop-j-preserved c =
    let loop = c.loop-j in
    let args = c.args in
    written_next c.cell.result loop.invariant (omega arith) (c.cell.ensures ∙ ap (λ (x : ℕ). x % args.p) (zero-add _))

pub returns : goal.returns
returns c = written_all c.loop-j.invariant (omega arith)
