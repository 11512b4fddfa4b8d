use mathlib.Core.Path.{sym, ap, ◌∙◌}
use mathlib.Core.Bool.{Bool, ◌&&◌, and-false, and-true}
use Prim.Native.Nat.{◌+◌}
use native.Mathlib.Omega.{arith}
use lib.ListN.{drop}
use Rattle.lists.specs.Places.{same}
use Rattle.lists.proofs.Sameness.{same-unlike}
use Rattle.readback.proofs.Comparing.{same_step, same-refuted, same_end}
use Rattle.readback.proofs.recovery.same_numbers.Goals as goal
use Rattle.readback.proofs.recovery.same_numbers.Goals.{then-x-ys, else-x-ys}

pub returns-then-xs-ys : goal.returns-then-xs-ys
returns-then-xs-ys c = sym (same-unlike _ _ c.if-xs-ys.true)

pub loop-i-preserved : goal.loop-i-preserved
loop-i-preserved c =
    let loop = c.loop-i in
    let xs = c.args.xs.now in
    let ys = c.args.ys.now in
    let here : Bool → Bool = (λ t. loop.equal && t) in
    let later : Bool → Bool = (λ t. t && same (drop (loop.i + 1) xs) (drop (loop.i + 1) ys)) in
    elim c.if-x-ys.branch [
      | then-x-ys w ↦ loop.invariant ∙ ap here (same-refuted xs ys loop.i (omega arith) (omega arith) w.if-x-ys.true) ∙ and-false loop.equal ∙ sym (ap later w.equal-is)
      | else-x-ys w ↦ loop.invariant ∙ ap here (same_step xs ys loop.i (omega arith) (omega arith) w.if-x-ys.false) ∙ sym (ap later w.equal-is)
    ]

pub returns : goal.returns
returns c =
    let end = same_end c.args.xs.now c.args.ys.now c.loop-i.i c.if-xs-ys.false (omega arith) in
    sym (c.loop-i.invariant ∙ ap (λ (t : Bool). c.loop-i.equal && t) end ∙ and-true c.loop-i.equal)
