use Rattle.std.specs.Prelude.{◌≡◌, ◌+◌, ◌*◌, ℕ, take}
use mathlib.Core.Path.{refl, sym, ap, ◌∙◌}
use native.Mathlib.Nat.{min-eq_right}
use native.Mathlib.Omega.{arith}
use Rattle.lists.specs.Places.{at}
use Rattle.plan.specs.Numbers as specs
use Rattle.plan.proofs.Radix.{product-next, product-front}
use Rattle.plan.proofs.radices.product.Goals as goal

pub loop-r-init : goal.loop-r-init
unfolding specs.product
loop-r-init c = (refl, omega arith)

pub returns-then-entries-gt-ENTRIES : goal.returns-then-entries-gt-ENTRIES
returns-then-entries-gt-ENTRIES c =
    let R = c.args.radices.now in
    let loop = c.loop-r in
    let next : loop.entries * at R loop.r-index ≡ specs.product (take (loop.r-index + 1) R) =
    ap (λ (x : ℕ). x * at R loop.r-index) loop.invariant.0 ∙ sym (product-next R loop.r-index c.loop-r-test.true) in
    sym (min-eq_right (omega (arith, next, product-front R c.requires (loop.r-index + 1))))

pub loop-r-preserved : goal.loop-r-preserved
loop-r-preserved c =
    let R = c.args.radices.now in
    let loop = c.loop-r in
    (ap (λ (x : ℕ). x * at R loop.r-index) loop.invariant.0 ∙ sym (product-next R loop.r-index c.loop-r-test.true), c.if-entries-gt-ENTRIES.false)
