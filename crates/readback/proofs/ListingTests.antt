-- Coefficients from a text: what the code tests, from the definition's test.
--     printed-back                a listing passes 13, and its figures and steps are those that it was printed from
--     listing-parts               a text that is a listing has those steps and those figures
--     listing-lost, listing-unwritten, listing-figures      so a text with others is none
--     listing-whole               and one that passes 13 and has both is one
--     answer-malformed, answer-refused, answer-read         the answer from the tests, and what is left in β
--     answer-early                the answer for a plan that is not admitted
-- Assumes nothing.
use mathlib.Core.Path.{◌≡◌, refl, sym, ap, ap₂, ◌∙◌}
use mathlib.Core.Bool.{Bool, true, false, cond, true≢false}
use mathlib.Core.List.{List, [], ◌∷◌}
use Prim.Native.Nat.{ℕ, zero, suc, ◌+◌, ◌*◌, ◌≤◌, ◌<◌}
use native.Mathlib.Omega.{arith}
use lib.ListN.{length}
use borrow.Author.Tests.{ne_eqb}
use Rattle.std.specs.Prelude.{Ok}
use Rattle.lists.specs.Places.{same}
use Rattle.lists.proofs.Tests.{refute, both, both_true}
use Rattle.lists.proofs.Sameness.{same_refl, same_true}
use Rattle.field.specs.Residues.{Residues}
use Rattle.field.specs.Rows.{all_below}
use Rattle.field.proofs.Ranges.{residues-of, below_of}
use Rattle.plan.specs.declared.numbers.Plan.{Plan}
use Rattle.plan.specs.Numbers.{Within}
use Rattle.plan.specs.declared.admission.Own.TheVariants.{Row}
use Rattle.plan.specs.Causes.{first, Answer, refuses}
use Rattle.plan.specs.declared.refusal.Refusal.TheVariants.{Line, Foreign}
use Rattle.plan.specs.Parts.{Given, call_causes}
use Rattle.plan.proofs.Bounds.{prime-low}
use Rattle.plan.proofs.Refusals.{refused-answer}
use Rattle.program.specs.Layout.{layout, step_count}
use Rattle.program.proofs.Shape.{layout-length, step-limit}
use Rattle.listing.specs.Norm.{worst}
use Rattle.listing.specs.Printed.{figures, listing}
use Rattle.listing.proofs.Rooms.{small-steps}
use Rattle.listing.proofs.NormLimit.{worst-limit}
use Rattle.readback.specs.Recovery.{recovered, is_written}
use Rattle.readback.specs.Listings.{malformed, steps_in, is_listing, refused_at, answer_of, text_answer, text_left, listing_causes, listing_answer}
use Rattle.readback.specs.Scanned.{figures_in, Lost}
use Rattle.readback.proofs.Texts.{shown, listing-shown, shown-fits, shown-figures, shown-steps, text-shown}

module _ (P : Plan) (within : Within P) (w d : List ℕ) (hw : Residues P.p w) (hd : Residues P.p d) where
  module _ (β : List ℕ) (hβ : Residues P.p β) where
    -- the figures have at most 7 digits, and a step's numbers at most 5
    small-figures : Residues 10000000 (figures P w d β)
    small-figures zero = omega (arith, within.products-limit, within.variable-limit)
    small-figures (suc zero) = omega (arith, step-limit P within)
    small-figures (suc (suc zero)) = omega (arith, worst-limit P w d β within hw hd hβ)
    small-figures (suc (suc (suc i))) = omega arith

    small-numbers : (top : ℕ) → 1000 ≤ top → Residues top (layout P w d β)
    small-numbers top h i = omega (arith, h, small-steps P w d β (layout P w d β) within hw hd hβ refl i)

    pub printed-back : (text : List ℕ) → text ≡ listing P w d β → (malformed text ≡ 0) × (figures_in text ≡ figures P w d β) × (steps_in text ≡ layout P w d β)
    printed-back text e =
        let whole = e ∙ listing-shown P w d β in
        let few = small-numbers 100000 (omega arith) in
        let size = layout-length P w d β in (
          ap malformed whole ∙ shown-fits (P.m + 2 * P.t) (step_count P) (worst P w d β) (layout P w d β) (step_count P) size small-figures few,
          ap figures_in whole ∙ shown-figures (P.m + 2 * P.t) (step_count P) (worst P w d β) (layout P w d β) (step_count P) size small-figures few,
          ap steps_in whole ∙ shown-steps (P.m + 2 * P.t) (step_count P) (worst P w d β) (layout P w d β) (step_count P) size small-figures few,
        )

  module _ (text : List ℕ) where
    abbrev found : List ℕ
    found = recovered P (steps_in text)

    residues : all_below P.p found ≡ true → Residues P.p found
    residues h = residues-of P.p found (omega (arith, prime-low within)) h

    pub listing-parts : is_listing P w d text ≡ true → (all_below P.p found ≡ true) × (steps_in text ≡ layout P w d found) × (figures_in text ≡ figures P w d found)
    unfolding is_listing
    listing-parts h =
        let b = both_true (all_below P.p found) (same text (listing P w d found)) h in
        let back = printed-back found (residues b.0) text (same_true text (listing P w d found) b.1) in
        (b.0, back.2, back.1)

    pub listing-lost : (steps : List ℕ) → 17228 ≤ length steps → Lost (steps_in text) steps → is_listing P w d text ≡ false
    listing-lost steps large lost =
        refute (is_listing P w d text)
        (λ h.
        let parts = listing-parts h in
        let few = ap length parts.1 ∙ layout-length P w d found in
        let narrow = below_of 65536 (layout P w d found) (small-numbers found (residues parts.0) 65536 (omega arith)) in
        lost.unfit (omega (arith, large, few, step-limit P within)) (ap (all_below 65536) parts.1 ∙ narrow))

    pub listing-unwritten : is_written P w d (steps_in text) ≡ false → is_listing P w d text ≡ false
    unfolding is_written
    listing-unwritten h =
        refute (is_listing P w d text)
        (λ l.
        let parts = listing-parts l in
        let again = ap (same (steps_in text)) (sym parts.1) ∙ same_refl (steps_in text) in
        true≢false (sym (both (all_below P.p found) (same (steps_in text) (layout P w d found)) parts.0 again) ∙ h))

    pub listing-figures : same (figures_in text) (figures P w d found) ≡ false → is_listing P w d text ≡ false
    listing-figures h =
        refute (is_listing P w d text)
        (λ l. true≢false (sym (ap (same (figures_in text)) (sym (listing-parts l).2) ∙ same_refl (figures_in text)) ∙ h))

    pub listing-whole : malformed text ≡ 0 → is_written P w d (steps_in text) ≡ true → same (figures_in text) (figures P w d found) ≡ true → is_listing P w d text ≡ true
    unfolding is_listing is_written
    listing-whole good written right =
        let b = both_true (all_below P.p found) (same (steps_in text) (layout P w d found)) written in
        let whole : text ≡ listing P w d found =
        text-shown text good
        ∙ ap₂ shown (same_true (figures_in text) (figures P w d found) right) (same_true (steps_in text) (layout P w d found) b.1)
        ∙ sym (listing-shown P w d found) in
        both (all_below P.p found) (same text (listing P w d found)) b.0 (ap (same text) (sym whole) ∙ same_refl text)

-- the answer, and what is left in β
module _ (P : Plan) (w d text β : List ℕ) where
  pub answer-malformed : (j : ℕ) → malformed text ≡ j → 0 < j → (answer_of (refused_at Line j) ≡ text_answer P w d text) × (β ≡ text_left P w d text β)
  answer-malformed j e l = let other = ne_eqb j 0 (λ z. omega (arith, z, l)) in (rw (e, other), rw (e, other))

  pub answer-refused : malformed text ≡ 0 → is_listing P w d text ≡ false → (answer_of (refused_at Foreign 1) ≡ text_answer P w d text) × (β ≡ text_left P w d text β)
  answer-refused e f = (rw (e, f), rw (e, f))

  pub answer-read : malformed text ≡ 0 → is_listing P w d text ≡ true → (answer_of (Ok tt) ≡ text_answer P w d text) × (recovered P (steps_in text) ≡ text_left P w d text β)
  answer-read e t = (rw (e, t), rw (e, t))

-- a list of causes numbered 1 to n refuses with one of these numbers
abbrev AtMost : ℕ → List (ℕ × Bool) → Type 0
AtMost n [] = Unit {0}
AtMost n (cause ∷ causes) = (cause.0 ≤ n) × AtMost n causes

first-most : (n : ℕ) (causes : List (ℕ × Bool)) → AtMost n causes → first causes ≤ n
first-most n [] h = omega arith
first-most n (cause ∷ causes) h = by cause.1 h.0 (first-most n causes h.1)
  where
    by : (b : Bool) → cause.0 ≤ n → first causes ≤ n → cond b cause.0 (first causes) ≤ n
    by true here later = here
    by false here later = later

-- a plan that is not admitted is refused without a line
pub answer-early : (G : Given) (text β : List ℕ) (k : ℕ) → k ≡ first (call_causes G (Row (length β)) (λ _. [])) → k ≡ first (listing_causes G text β) → 0 < k → (refuses k, []) ≡ listing_answer G text β
unfolding call_causes
answer-early G text β k early e pos =
    let few : k ≤ 5 = rw early (first-most 5 (call_causes G (Row (length β)) (λ _. [])) (omega arith)) in
    ap₂ (λ (a : Answer) (l : List ℕ). (a, l)) (refused-answer k _ [] e pos) (rw (sym e, ne_eqb k 13 (λ z. omega (arith, z, few)), ne_eqb k 15 (λ z. omega (arith, z, few))))
