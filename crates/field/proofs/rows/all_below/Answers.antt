-- `field::rows::all_below` meets its contract: the largest is below p exactly when each is (`largest-below` of `Ranges`). Assumes nothing.
use Rattle.std.proofs.Common.{rules, ◌≡◌, ◌∙◌, ap, ℕ, max}
use Rattle.std.specs.List.{fold}
use lib.Dec.{ltb}
use Rattle.field.proofs.Ranges.{largest-below}
use Rattle.field.proofs.rows.all_below.Goals as goal

pub returns : goal.returns
returns c =
    let e : c.fold.result ≡ fold max 0 c.args.xs.now = search rules in
    ap (λ (n : ℕ). ltb n c.args.p) e ∙ largest-below c.args.p c.args.xs.now c.requires
