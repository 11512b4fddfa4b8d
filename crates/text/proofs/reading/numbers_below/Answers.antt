-- `text::reading::numbers_below` meets its contract. Assumes nothing.
use Rattle.std.proofs.Common.{rules, tests, nat_lt, ℕ, ◌∙◌}
use Rattle.std.proofs.lemmas.Iterator.{YieldsList-from_slice}
use Rattle.std.proofs.lemmas.Iterator.Search.{all_from_yields_List}
use Rattle.text.proofs.Parting.{all-below}
use Rattle.text.proofs.reading.numbers_below.Goals as goal

pub returns : goal.returns
returns c =
    all_from_yields_List (λ (x : ℕ). nat_lt x c.args.p) _ _ _ c.all.ensures.ran (YieldsList-from_slice c.args.xs.now cc) (λ x b q k. search (rules, tests))
    ∙ all-below _ _
