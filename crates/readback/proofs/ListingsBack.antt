-- The theorem of C-15 for texts, over what the call answers: under an accepted plan a text is read back exactly when some coefficients have it
-- as their listing, figures included; what is left in β are these, and no others have it.
--     listing-exactly     accepted, exactly when some coefficients have the text as their listing
--     listing-refused     where none have it and no line is malformed, 15 with line 1
--     listing-again       what an accepted call leaves in β has the text as its listing, and nothing else has
-- `StepsBack` has the theorem for lists of steps. Assumes nothing.
use mathlib.Core.Path.{◌≡◌, refl, sym, ap, ◌∙◌}
use mathlib.Core.Bool.{Bool, true, false}
use mathlib.Core.Logic.{◌↔◌}
use mathlib.Core.List.{List, []}
use Prim.Native.Nat.{ℕ}
use native.Mathlib.Omega.{arith}
use lib.ListN.{length}
use borrow.Author.Tests.{eq-eqb, not-false}
use Rattle.std.specs.Prelude.{Ok}
use Rattle.lists.specs.Places.{same}
use Rattle.lists.proofs.Tests.{both, both_true}
use Rattle.lists.proofs.Sameness.{same_refl, same_true}
use Rattle.field.specs.Rows.{all_below}
use Rattle.field.proofs.Ranges.{residues-of, below_of}
use Rattle.plan.specs.declared.admission.Own.TheVariants.{Nothing, Row}
use Rattle.plan.specs.Causes.{first, Answer, answer}
use Rattle.plan.specs.declared.refusal.Refusal.TheVariants.{Foreign}
use Rattle.plan.specs.Numbers.{columns}
use Rattle.plan.specs.Parts.{Given, check_causes}
use Rattle.plan.proofs.Bounds.{prime-low}
use Rattle.plan.proofs.Refusals.{none-met, answer-gives}
use Rattle.plan.proofs.Admitting.{Unrefused, unrefused, accepted-call}
use Rattle.program.specs.Layout.{layout}
use Rattle.listing.specs.Printed.{figures, listing}
use Rattle.readback.specs.Recovery.{recovered}
use Rattle.readback.specs.Listings.{malformed, steps_in, is_listing, listing_own, listing_causes, line_of, refused_at, answer_of, listing_answer, listing_left, Listed}
use Rattle.readback.specs.Scanned.{figures_in}
use Rattle.readback.proofs.Places.{recovered-length, recovered-layout}
use Rattle.readback.proofs.ListingTests.{printed-back}

module _ (G : Given) (accepted : first (check_causes G) ≡ 0) (text : List ℕ) where
  plan-is : Unrefused G Nothing (λ _. [])
  plan-is = unrefused G Nothing (λ _. []) accepted

  -- what a listing's own coefficients make of it
  module _ (β : List ℕ) (h : Listed G text β) where
    back : (malformed text ≡ 0) × (figures_in text ≡ figures G.numbers G.weights G.products β) × (steps_in text ≡ layout G.numbers G.weights G.products β)
    back = printed-back G.numbers plan-is.within G.weights G.products plan-is.lent.weights-residues plan-is.lent.products-residues β h.residues text (sym h.printed)

    one : recovered G.numbers (steps_in text) ≡ β
    one = ap (recovered G.numbers) back.2 ∙ recovered-layout G.numbers G.weights G.products β h.places

    listed-test : is_listing G.numbers G.weights G.products text ≡ true
    unfolding is_listing
    listed-test =
        let P = G.numbers in
        rw one (both (all_below P.p β) (same text (listing P G.weights G.products β)) (below_of P.p β h.residues) (rw h.printed (same_refl text)))

  listed_of : is_listing G.numbers G.weights G.products text ≡ true → Listed G text (recovered G.numbers (steps_in text))
  unfolding is_listing
  listed_of t =
      let P = G.numbers in
      let β = recovered P (steps_in text) in
      let b = both_true (all_below P.p β) (same text (listing P G.weights G.products β)) t in
      record {
        places = recovered-length P (steps_in text);
        residues = residues-of P.p β (omega (arith, prime-low plan-is.within)) b.0;
        printed = sym (same_true text (listing P G.weights G.products β) b.1);
      }

  module _ (β₀ : List ℕ) (room : length β₀ ≡ columns G.numbers) where
    call : first (listing_causes G text β₀) ≡ first (listing_own text G)
    call = accepted-call G accepted (Row (length β₀)) (listing_own text) (eq-eqb (length β₀) (columns G.numbers) room)

    read_none : listing_answer G text β₀ ≡ answer_of (Ok tt) → first (listing_causes G text β₀) ≡ 0
    read_none e = (answer-gives _ [] [] (ap (λ (x : Answer × List ℕ). x.0) e)).0

    passed : listing_answer G text β₀ ≡ answer_of (Ok tt) → is_listing G.numbers G.weights G.products text ≡ true
    passed e =
        let none = read_none e in
        not-false _ (none-met (listing_own text G) (omega arith) (sym call ∙ none)).1.0

    pub listing-exactly : (listing_answer G text β₀ ≡ answer_of (Ok tt)) ↔ ((β : List ℕ) × Listed G text β)
    listing-exactly = (
      (λ e. (recovered G.numbers (steps_in text), listed_of (passed e))),
      (λ x.
          let none : first (listing_causes G text β₀) ≡ 0 = call ∙ rw ((back x.0 x.1).0, listed-test x.0 x.1) in
          ap (λ (k : ℕ). (answer k [], line_of k text)) none),
    )

    pub listing-refused : malformed text ≡ 0 → (((β : List ℕ) × Listed G text β) → ⊥) → listing_answer G text β₀ ≡ answer_of (refused_at Foreign 1)
    listing-refused good none = by (is_listing G.numbers G.weights G.products text) refl
      where
        by : (b : Bool) → is_listing G.numbers G.weights G.products text ≡ b → listing_answer G text β₀ ≡ answer_of (refused_at Foreign 1)
        by true t = absurd (none (recovered G.numbers (steps_in text), listed_of t))
        by false t =
            let refused : first (listing_causes G text β₀) ≡ 15 = call ∙ rw (good, t) in
            ap (λ (k : ℕ). (answer k [], line_of k text)) refused

    pub record Returned (left : List ℕ) : Type 0 where
      pub again : Listed G text left
      pub only : (β : List ℕ) → Listed G text β → β ≡ left

    pub listing-again : listing_answer G text β₀ ≡ answer_of (Ok tt) → Returned (listing_left G text β₀)
    listing-again e =
        rw (read_none e) (record { again = listed_of (passed e); only = λ β h. sym (one β h) })
