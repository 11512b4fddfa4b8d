use Rattle.program.specs.Layout.{product_steps}
use Rattle.program.proofs.Placement.{none-joined, next-fits, wrote-next}
use Rattle.program.proofs.writing.Writer.products.Goals as goal

pub loop-i-init : goal.loop-i-init
loop-i-init c = none-joined _ _

pub product-requires-clause-room : goal.product-requires-clause-room
product-requires-clause-room c =
    next-fits (product_steps c.args.source.now.plan c.args.source.now.d.now c.args.source.now.beta.now) _ _ c.loop-i-test.true c.requires c.loop-i.invariant

pub loop-i-preserved : goal.loop-i-preserved
loop-i-preserved c =
    wrote-next (product_steps c.args.source.now.plan c.args.source.now.d.now c.args.source.now.beta.now) _ _ c.loop-i-test.true c.requires c.loop-i.invariant c.product.ensures
