use mathlib.Core.Path.{ap, ◌∙◌}
use Prim.Native.Nat.{ℕ, ◌%◌}
use native.Mathlib.Nat.{le_antisymm}
use native.Mathlib.Omega.{arith}
use Rattle.lists.specs.Places.{at}
use Rattle.store.specs.Elimination.{cells}
use Rattle.store.proofs.RowStarts.{start-zero, start-next}
use Rattle.store.proofs.Freeing.{column-sum, sum-none, row-room, sum-next, sum_room, column-residual}
use Rattle.store.proofs.against.Against.residue.Goals as goal

pub loop-i-init : goal.loop-i-init
loop-i-init c =
    let self = c.args.self.now in
    (omega (arith, start-zero self.c), sum-none self.p (cells self.c self.store.now) (at self.e.now) c.args.q)

pub bounds-self-a : goal.bounds-self-a
bounds-self-a c =
    let self = c.args.self.now in
    let inv = c.loop-i.invariant in
    omega (arith, row-room self.ready self.line c.requires.q_le_c c.loop-i-test.true inv.0 inv.1, c.requires.q_le_c)

pub overflow_add-sum : goal.overflow_add-sum
overflow_add-sum c =
    let self = c.args.self.now in
    let inv = c.loop-i.invariant in
    omega (arith, sum_room self.ready self.line c.requires.q_le_c c.loop-i-test.true inv.0 inv.1)

pub overflow_add-a : goal.overflow_add-a
overflow_add-a c =
    let self = c.args.self.now in
    let inv = c.loop-i.invariant in
    omega (arith, row-room self.ready self.line c.requires.q_le_c c.loop-i-test.true inv.0 inv.1, c.requires.q_le_c)

pub loop-i-preserved : goal.loop-i-preserved
loop-i-preserved c =
    let self = c.args.self.now in
    let inv = c.loop-i.invariant in
    (omega (arith, start-next c.args.self.now.c c.loop-i.i), sum-next self.ready self.line c.requires.q_le_c c.loop-i-test.true inv.0 inv.1)

pub returns : goal.returns
returns c =
    let self = c.args.self.now in
    let all = le_antisymm c.loop-i.auto.i-end c.loop-i-test.false in
    ap (λ (x : ℕ). x % self.p) (c.loop-i.invariant.1 ∙ ap (column-sum self.p (cells self.c self.store.now) (at self.e.now) c.args.q) all)
    ∙ column-residual self.p self.c (cells self.c self.store.now) (at self.e.now) c.args.self.now.ready.reduced c.args.q c.requires.q_le_c c.requires.q_value
