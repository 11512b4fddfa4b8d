use mathlib.Core.Path.{ap, subst}
use mathlib.Core.Bool.{Bool, ◌&&◌}
use mathlib.Core.List.{List, [], ◌∷◌}
use Prim.Native.Nat.{ℕ, ◌+◌, ◌<◌}
use lib.ListN.{length, drop, get_or}
use Rattle.std.proofs.lemmas.List.{at_drop_more, at_drop_all}
use Rattle.plan.specs.Parts.{Given}
use Rattle.plan.specs.Lending.{whole}
use Rattle.store.specs.Calls.{empty_store}
use Rattle.ledger.specs.Stages.{as_pair, as_pairs}
use Rattle.ledger.proofs.Orders.{Refiling, refiling-start, value-below, refiling-next, refiling-end}
use Rattle.ledger.proofs.refiling.refile.Goals as goal

-- one pair more is left to file
turn : (G : Given) (skip : ℕ) (S₀ S : List ℕ) (fits : Bool) (pairs : List (List ℕ)) (k : ℕ) → k < length pairs
    → Refiling G skip S₀ (as_pairs pairs) S fits (as_pairs (drop k pairs))
    → Refiling G skip S₀ (as_pairs pairs) S fits (as_pair (get_or pairs k []) ∷ as_pairs (drop (k + 1) pairs))
turn G skip S₀ S fits pairs k more g = subst (Refiling G skip S₀ (as_pairs pairs) S fits) (at_drop_more as_pairs pairs k [] more) g

pub loop-pair-init : goal.loop-pair-init
loop-pair-init c =
    let a = c.args in
    let plan = a.plan.now in
    let G = whole plan in
    rw c.requires.store_value (refiling-start G plan.within plan.lent a.skip (as_pairs a.pairs.now) c.requires.list_value)

pub refile_one-fits-requires-clause-value_bound : goal.refile_one-fits-requires-clause-value_bound
refile_one-fits-requires-clause-value_bound c =
    let a = c.args in
    let loop = c.loop-pair in
    let plan = a.plan.now in
    let G = whole plan in
    let now = turn G a.skip (empty_store plan.numbers) loop.store loop.fits a.pairs.now loop.pair-index c.loop-pair-test.true loop.invariant in
    value-below G plan.within plan.lent a.skip _ _ _ _ _ _ now

pub loop-pair-preserved : goal.loop-pair-preserved
loop-pair-preserved c =
    let a = c.args in
    let loop = c.loop-pair in
    let plan = a.plan.now in
    let G = whole plan in
    let one = c.refile_one-fits.ensures in
    let now = turn G a.skip (empty_store plan.numbers) loop.store loop.fits a.pairs.now loop.pair-index c.loop-pair-test.true loop.invariant in
    rw one.store_after (refiling-next G plan.within plan.lent a.skip (as_pairs a.pairs.now) _ _ _ _ _ now _ (ap (λ (b : Bool). loop.fits && b) one.value))

pub returns : goal.returns
returns c =
    let a = c.args in
    let loop = c.loop-pair in
    let plan = a.plan.now in
    let G = whole plan in
    let S₀ = empty_store plan.numbers in
    let all = as_pairs a.pairs.now in
    let done = subst (Refiling G a.skip S₀ all loop.store loop.fits) (at_drop_all as_pairs a.pairs.now loop.pair-index c.loop-pair-test.false) loop.invariant in
    let told = refiling-end G plan.within plan.lent a.skip all S₀ loop.store loop.fits done in
    record { store_after = told.0; value = told.1 }
