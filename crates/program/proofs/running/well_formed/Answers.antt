use Rattle.std.proofs.Common.{rules, ◌≡◌, List, ◌∙◌}
use Rattle.std.proofs.lemmas.Iterator.{YieldsList-from_slice}
use Rattle.std.proofs.lemmas.Iterator.Search.{all_from_yields_List}
use borrow.Author.Tests.{tests, eq-eqb}
use Prim.Native.Nat.{ℕ, ◌%◌}
use lib.ListN.{length}
use Rattle.lists.specs.Places.{at}
use Rattle.program.specs.Steps.{good_step, well_formed}
use Rattle.program.proofs.Lists.{steps-every}
use Rattle.program.proofs.running.well_formed.Goals as goal

pub returns-then-is_empty : goal.returns-then-is_empty
unfolding well_formed
returns-then-is_empty c =
    let tested = all_from_yields_List (λ (xs : List ℕ). good_step c.args.plan (at xs 0) (at xs 1) (at xs 2) (at xs 3)) _ _ c.all.result c.all.ensures.ran
    (YieldsList-from_slice {s = c.iter.result} c.as_chunks.result.0.now cc) (λ x b q k. search (rules, tests)) in
    let passed = steps-every c.args.plan c.args.steps.now _ c.as_chunks.result.0.now c.as_chunks.ensures.front c.as_chunks.ensures.front_len in
    let whole : length c.args.steps.now % 4 ≡ 0 = search (rules, tests) in
    rw (eq-eqb (length c.args.steps.now % 4) 0 whole) (tested ∙ passed)

pub returns-else-is_empty : goal.returns-else-is_empty
unfolding well_formed
returns-else-is_empty c = search (rules, tests)
