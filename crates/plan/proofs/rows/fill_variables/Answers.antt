use mathlib.Core.Path.{◌∙◌}
use native.Mathlib.Omega.{arith}
use Rattle.plan.specs.Lending.{whole}
use Rattle.plan.specs.Rows.{chain}
use Rattle.plan.proofs.Bounds.{modulus, prime-low}
use Rattle.plan.proofs.Chains.{linked-none, linked-next, linked-all, link-room, link-of-parts}
use Rattle.plan.proofs.rows.fill_variables.Goals as goal

pub loop-k-init : goal.loop-k-init
loop-k-init c = linked-none _ _ c.fill_digits.new.x c.args.x.now c.fill_digits.ensures c.requires

pub overflow_add-end : goal.overflow_add-end
overflow_add-end c =
    let plan = c.args.plan.now in
    let loop = c.loop-k in
    omega (arith, link-room plan.numbers plan.weights.now loop.begin loop.k plan.lent.weights-length loop.invariant.begins c.loop-k-test.true)

pub slice_bounds-link-end : goal.slice_bounds-link-end
slice_bounds-link-end c =
    let plan = c.args.plan.now in
    let loop = c.loop-k in
    link-room plan.numbers plan.weights.now loop.begin loop.k plan.lent.weights-length loop.invariant.begins c.loop-k-test.true

pub link-v-requires-clause-modulus : goal.link-v-requires-clause-modulus
link-v-requires-clause-modulus c = modulus c.args.plan.now.within

pub loop-k-preserved : goal.loop-k-preserved
loop-k-preserved c =
    let plan = c.args.plan.now in
    let P = plan.numbers in
    let loop = c.loop-k in
    let room = link-room P plan.weights.now loop.begin loop.k plan.lent.weights-length loop.invariant.begins c.loop-k-test.true in
    linked-next c.link-v.result loop.invariant c.loop-k-test.true
    (c.link-v.ensures
    ∙ rw loop.invariant.done
    (link-of-parts P plan.weights.now plan.tables.now (chain (whole plan) c.args.entry loop.k) loop.begin loop.k loop.invariant.begins room
    (omega (arith, prime-low plan.within))))

pub returns : goal.returns
returns c = linked-all c.loop-k.invariant c.loop-k-test.false
