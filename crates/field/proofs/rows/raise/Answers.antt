use mathlib.Core.Path.{refl, ap, ◌∙◌}
use Prim.Native.Nat.{ℕ, max}
use native.Mathlib.Nat.{le_refl}
use native.Mathlib.Omega.{arith}
use Rattle.lists.specs.Places.{at}
use Rattle.lists.proofs.Overwrite.{written_none, written_next, unwritten, written_all}
use Rattle.field.proofs.rows.raise.Goals as goal

pub loop-j-init : goal.loop-j-init
loop-j-init c = written_none _ _ _ refl

pub loop-j-preserved : goal.loop-j-preserved
loop-j-preserved c =
    let j = c.loop-j.j in
    let here = unwritten c.loop-j.invariant j (le_refl j) in
    written_next c.max.result c.loop-j.invariant (omega arith) (c.max.ensures ∙ ap (λ (x : ℕ). max x (at c.args.xs.now j)) here)

pub returns : goal.returns
returns c = written_all c.loop-j.invariant (omega arith)
