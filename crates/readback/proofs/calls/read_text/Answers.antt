-- `readback::calls::read_text` meets its contract: what the lines say, what the steps say, and what the figures say (`ListingTests`).
-- Assumes nothing.
use mathlib.Core.Path.{sym, ap, ap₂, subst, ◌∙◌}
use Prim.Native.Nat.{◌≤◌}
use native.Mathlib.Omega.{arith}
use lib.ListN.{length}
use Rattle.lists.specs.Places.{same}
use Rattle.field.specs.Residues.{Residues}
use Rattle.field.proofs.Ranges.{residues-of}
use Rattle.plan.proofs.Bounds.{prime-low}
use Rattle.listing.specs.Printed.{figures}
use Rattle.readback.specs.Recovery.{recovered, is_written}
use Rattle.readback.specs.Listings.{steps_in}
use Rattle.readback.specs.Scanned.{Kept}
use Rattle.readback.proofs.Places.{recovered-length}
use Rattle.readback.proofs.StepsBack.{written_below}
use Rattle.readback.proofs.ListingTests.{listing-lost, listing-unwritten, listing-figures, listing-whole, answer-refused, answer-read}
use Rattle.readback.proofs.calls.read_text.Goals as goal
use Rattle.readback.proofs.calls.read_text.Goals.{else-is_written-via-then-is_written+else-figures_match, else-is_written-via-else-is_written}

-- facts of all clauses as a record of them
clauses : {A B : Type 0} → A × B → record { answer : A; beta_after : B }
clauses all = record { answer = all.0; beta_after = all.1 }

pub returns-in_default : goal.returns-in_default
returns-in_default c =
    let plan = c.args.plan.now in
    let known = c.in_ok-count.ensures in
    let large : 17228 ≤ length c.scan_text.new.steps = omega (arith, c.scan_text.auto.steps, c.steps_buffer-steps.ensures.value) in
    let lost = subst (Kept (steps_in c.args.text.now) c.scan_text.new.steps) c.in_default.is known.2 in
    clauses (answer-refused _ _ _ _ _ known.0
    (listing-lost _ plan.within _ _ plan.lent.weights-residues plan.lent.products-residues _ c.scan_text.new.steps large lost))

pub figures_match-requires-clause-beta_len : goal.figures_match-requires-clause-beta_len
figures_match-requires-clause-beta_len c =
    let plan = c.args.plan.now in
    let P = plan.numbers in
    let found = c.is_written.ensures.found_after c.if-is_written.true in
    let below = written_below P plan.weights.now plan.products.now _ (sym c.if-is_written.ensures.value) in (
      ap length found ∙ recovered-length P _,
      subst (Residues P.p) (sym found) (residues-of P.p _ (omega (arith, prime-low plan.within)) below),
    )

pub returns-then-figures_match : goal.returns-then-figures_match
returns-then-figures_match c =
    let plan = c.args.plan.now in
    let P = plan.numbers in
    let known = c.in_ok-count.ensures in
    let held = subst (Kept (steps_in c.args.text.now) c.scan_text.new.steps) c.in-Some.is known.2 in
    let found = c.is_written.ensures.found_after c.if-is_written.true ∙ ap (recovered P) held.list in
    let written = ap (is_written P plan.weights.now plan.products.now) (sym held.list) ∙ sym c.if-is_written.ensures.value in
    let alike = ap₂ same (sym known.1) (ap (figures P plan.weights.now plan.products.now) (sym found)) ∙ sym c.if-figures_match.ensures in
    let whole = listing-whole P plan.within _ _ plan.lent.weights-residues plan.lent.products-residues c.args.text.now known.0 written alike in
    let answer = answer-read P _ _ c.args.text.now c.args.beta.now known.0 whole in
    record { answer = answer.0; beta_after = c.copy_from_slice.ensures.after ∙ found ∙ answer.1 }

-- a list of steps or figures that are not the listing's
pub returns : goal.returns
returns c =
    let plan = c.args.plan.now in
    let P = plan.numbers in
    let known = c.in_ok-count.ensures in
    let held = subst (Kept (steps_in c.args.text.now) c.scan_text.new.steps) c.in-Some.is known.2 in
    elim c.else-is_written.branch [
      | else-is_written-via-then-is_written+else-figures_match w ↦
          let found = c.is_written.ensures.found_after w.if-is_written.true ∙ ap (recovered P) held.list in
          let unlike = ap₂ same (sym known.1) (ap (figures P plan.weights.now plan.products.now) (sym found)) ∙ sym w.if-figures_match.ensures in
          clauses (answer-refused _ _ _ _ _ known.0
          (listing-figures _ plan.within _ _ plan.lent.weights-residues plan.lent.products-residues _ unlike))
      | else-is_written-via-else-is_written w ↦
          let unwritten = ap (is_written P plan.weights.now plan.products.now) (sym held.list) ∙ sym w.if-is_written.ensures.value in
          clauses (answer-refused _ _ _ _ _ known.0
          (listing-unwritten _ plan.within _ _ plan.lent.weights-residues plan.lent.products-residues _ unwritten))
    ]
