use mathlib.Core.Path.{sym}
use native.Mathlib.Omega.{arith}
use Rattle.lists.proofs.Overwrite.{written_none, written_next, written_all}
use Rattle.field.proofs.rows.reduce.Goals as goal

pub loop-j-init : goal.loop-j-init
loop-j-init c =
    let pre = c.requires in
    written_none _ _ _ (sym pre.acc_len)

pub remainder-requires : goal.remainder-requires
remainder-requires c =
    let pre = c.requires in
    let wide-reciprocal = c.wide_reciprocal-m in record {
      modulus = pre.modulus;
      m_value = wide-reciprocal.ensures;
    }

pub loop-j-preserved : goal.loop-j-preserved
loop-j-preserved c =
    let loop = c.loop-j in
    written_next c.remainder.result loop.invariant (omega arith) c.remainder.ensures

pub returns : goal.returns
returns c = written_all c.loop-j.invariant (omega arith)
