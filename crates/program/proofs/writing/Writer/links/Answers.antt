use mathlib.Core.Path.{sym, ap, ◌∙◌}
use Prim.Native.Nat.{ℕ, ◌+◌}
use native.Mathlib.Omega.{arith}
use Rattle.lists.proofs.Sums.{sum-zero, sum-next}
use Rattle.plan.proofs.Chains.{link-room}
use Rattle.program.specs.Layout.{link_steps}
use Rattle.program.proofs.Placement.{none-joined, next-fits, wrote-next}
use Rattle.program.proofs.writing.Writer.links.Goals as goal

pub loop-k-init : goal.loop-k-init
loop-k-init c = (sym (sum-zero _), none-joined _ _)

pub link-requires-clause-room : goal.link-requires-clause-room
link-requires-clause-room c =
    next-fits (link_steps c.args.source.now.plan c.args.source.now.weights.now) _ _ c.loop-k-test.true c.requires c.loop-k.invariant.1

pub overflow_add-start-in-loop-k : goal.overflow_add-start-in-loop-k
overflow_add-start-in-loop-k c =
    omega (arith, link-room c.args.source.now.plan c.args.source.now.weights.now c.loop-k.start c.loop-k.k c.args.source.now.weights_len c.loop-k.invariant.0 c.loop-k-test.true)

pub loop-k-preserved : goal.loop-k-preserved
loop-k-preserved c = (
  ap (λ (a : ℕ). a + (c.args.source.now.plan.n + c.loop-k.k)) c.loop-k.invariant.0 ∙ sym (sum-next (λ j. c.args.source.now.plan.n + j) c.loop-k.k),
  wrote-next (link_steps c.args.source.now.plan c.args.source.now.weights.now) _ _ c.loop-k-test.true c.requires c.loop-k.invariant.1 c.link.ensures,
)
