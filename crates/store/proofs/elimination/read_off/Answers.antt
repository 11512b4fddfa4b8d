use mathlib.Core.Path.{sym, ap, ◌∙◌}
use native.Mathlib.Omega.{arith}
use Rattle.lists.specs.Places.{at}
use Rattle.lists.proofs.Overwrite.{written_none, written_next, written_all}
use Rattle.store.specs.Calls.{coefficients}
use Rattle.store.proofs.RowStarts.{start-zero, start-next, row-end}
use Rattle.store.proofs.Bytes.{cells_right}
use Rattle.store.proofs.elimination.read_off.Goals as goal

pub loop-q-init : goal.loop-q-init
loop-q-init c = (written_none _ _ _ c.requires.beta_len, omega (arith, start-zero c.args.c))

pub bounds-store-a : goal.bounds-store-a
bounds-store-a c =
    let args = c.args in
    omega (arith, row-end args.c c.loop-q.q (omega (arith, c.requires.beta_len)))

pub overflow_add-a : goal.overflow_add-a
overflow_add-a c =
    let args = c.args in
    omega (arith, row-end args.c c.loop-q.q (omega (arith, c.requires.beta_len)))

pub loop-q-preserved : goal.loop-q-preserved
loop-q-preserved c =
    let args = c.args in
    let loop = c.loop-q in
    let here = ap (at args.store.now) loop.invariant.1 ∙ sym (cells_right args.c args.store.now loop.q args.c loop.invariant.0.within) in
    (written_next _ c.loop-q.invariant.0 (omega arith) here, omega (arith, start-next args.c c.loop-q.q))

pub returns : goal.returns
unfolding coefficients
returns c = written_all c.loop-q.invariant.0 (omega arith)
