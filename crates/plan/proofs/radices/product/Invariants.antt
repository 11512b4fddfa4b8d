-- `plan::radices::product` meets its contract: `entries` is the product of the radices passed, and once it passes the limit so does the whole
-- product. Assumes nothing.
use Rattle.std.specs.Prelude.{◌≡◌, ◌≤◌, take}
use Rattle.plan.specs.Numbers as specs
use Rattle.plan.proofs.radices.product.Given as goal

abbrev pub invariant-loop-r : goal.invariant-loop-r
invariant-loop-r l = (l.entries ≡ specs.product (take l.r-index l.radices)) × (l.entries ≤ 4096)
