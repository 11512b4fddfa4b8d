use Rattle.std.proofs.Common.{◌≡◌, ◌<◌, ◌+◌, ◌∷◌, ◌∙◌, false, ap, sym, length, drop, get_or, List, ℕ, [], arith}
use Rattle.std.proofs.lemmas.List.{at_drop_more, at_drop_all}
use Rattle.ledger.specs.Stages.{as_pair, as_pairs}
use Rattle.ledger.proofs.Rests.{well, well-start, well-next, well-high, well-value, well-marked, well-none}
use Rattle.ledger.proofs.pairs.well_listed.Goals.{then-n-entry-via-then-n-entry, then-n-entry-via-else-n-entry+then-from-value, then-n-entry-via-else-n-entry+else-from-value+then-seen-entry-ne0}
use Rattle.ledger.proofs.pairs.well_listed.Goals as goal

-- one pair more of the rest
next : (n s : ℕ) (marks : List ℕ) (pairs : List (List ℕ)) (k : ℕ) → k < length pairs
    → well n s marks (as_pairs (drop k pairs)) ≡ well n s marks (as_pair (get_or pairs k []) ∷ as_pairs (drop (k + 1) pairs))
next n s marks pairs k more = at_drop_more (λ (xs : List (List ℕ)). well n s marks (as_pairs xs)) pairs k [] more

pub loop-entry-init : goal.loop-entry-init
loop-entry-init c =
    let a = c.args in
    sym (well-start a.n a.s (length a.seen.now) (as_pairs a.pairs.now))
    ∙ ap (λ (marks : List ℕ). well a.n a.s marks (as_pairs a.pairs.now)) (sym c.requires.seen_value)

pub returns-then-n-entry : goal.returns-then-n-entry
returns-then-n-entry c =
    let a = c.args in
    let loop = c.loop-entry in
    let x = as_pair (get_or a.pairs.now loop.entry-index []) in
    let rest = as_pairs (drop (loop.entry-index + 1) a.pairs.now) in
    let stops : well a.n a.s loop.seen (x ∷ rest) ≡ false = elim c.then-n-entry.branch [
      | then-n-entry-via-then-n-entry w ↦ well-high a.n a.s loop.seen x rest (omega (arith, w.if-n-entry.true, c.from-entry.ensures))
      | then-n-entry-via-else-n-entry+then-from-value w ↦
          well-value a.n a.s loop.seen x rest (omega (arith, w.if-n-entry.false, c.from-entry.ensures)) (omega (arith, w.if-from-value.true, w.from.ensures))
      | then-n-entry-via-else-n-entry+else-from-value+then-seen-entry-ne0 w ↦
          well-marked a.n a.s loop.seen x rest (rw c.from-entry.ensures at w.if-seen-entry-ne0.true)
    ] in
    sym (loop.invariant ∙ next a.n a.s loop.seen a.pairs.now loop.entry-index c.loop-entry-test.true ∙ stops)

pub loop-entry-preserved : goal.loop-entry-preserved
loop-entry-preserved c =
    let a = c.args in
    let loop = c.loop-entry in
    let x = as_pair (get_or a.pairs.now loop.entry-index []) in
    let rest = as_pairs (drop (loop.entry-index + 1) a.pairs.now) in
    rw c.from-entry.ensures
    (loop.invariant
    ∙ next a.n a.s loop.seen a.pairs.now loop.entry-index c.loop-entry-test.true
    ∙ well-next a.n a.s loop.seen x rest (omega (arith, c.if-n-entry.false, c.from-entry.ensures)) (omega (arith, c.if-from-value.false, c.from.ensures))
    (omega (arith, c.requires.n_in_bounds, loop.auto.seen)) (rw c.from-entry.ensures at c.if-seen-entry-ne0.false))

pub returns : goal.returns
returns c =
    let a = c.args in
    let loop = c.loop-entry in
    let well-rest = λ (xs : List (List ℕ)). well a.n a.s loop.seen (as_pairs xs) in
    sym (loop.invariant ∙ at_drop_all well-rest a.pairs.now loop.entry-index c.loop-entry-test.false ∙ well-none a.n a.s loop.seen)
