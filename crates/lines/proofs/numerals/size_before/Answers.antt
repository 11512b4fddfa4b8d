-- `lines::numerals::size_before` meets its contract. Assumes nothing.
use Rattle.std.proofs.Common.{rules, tests, nat_eq, ℕ, ◌∙◌}
use Rattle.std.proofs.lemmas.Iterator.{YieldsList-from_slice}
use Rattle.std.proofs.lemmas.Iterator.Search.{position_from_yields_List}
use Rattle.lines.proofs.WordLaws.{front-found}
use Rattle.lines.proofs.numerals.size_before.Goals as goal

pub returns : goal.returns
returns c =
    let found = position_from_yields_List (λ (x : ℕ). nat_eq x c.args.c) _ _ c.position.result c.position.ensures.ran (YieldsList-from_slice c.args.bytes.now cc) (λ x b q k. search (rules, tests)) in
    c.unwrap_or.ensures ∙ rw found (front-found _ _)
