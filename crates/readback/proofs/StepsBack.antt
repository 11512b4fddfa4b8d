-- Coefficients from a list of steps: what the code tests, and the theorem of C-15 for steps.
--     written-unlike, written_none, written_as, written_below       the test, from the list's length, the numbers read, and the list written again
--     written_one                 coefficients that write a list are those that are read out of it
--     written_of, written-test    a list that some coefficients write passes the test, and one that passes is written by those read
--     steps-exactly, steps-refused      under an accepted plan the call accepts exactly when some coefficients make the writer give the list, and
--                                 refuses with 15 when none do
--     steps-again                 what an accepted call leaves in β, written again by the writer's own call, is the list, and nothing else is
-- Assumes nothing.
use mathlib.Core.Path.{◌≡◌, refl, sym, ap, ◌∙◌}
use mathlib.Core.Bool.{Bool, true, false}
use mathlib.Core.Logic.{◌↔◌}
use mathlib.Core.List.{List, []}
use Prim.Native.Nat.{ℕ, ◌*◌, ◌≤◌}
use native.Mathlib.Omega.{arith}
use lib.ListN.{length}
use borrow.Author.Tests.{eq-eqb, le-ltb, not-false}
use Rattle.lists.specs.Places.{same}
use Rattle.lists.proofs.Tests.{both, both_true, and-false}
use Rattle.lists.proofs.Sameness.{same_refl, same_true, same-unlike}
use Rattle.field.specs.Rows.{all_below}
use Rattle.field.proofs.Ranges.{residues-of, below_of}
use Rattle.plan.specs.declared.numbers.Plan.{Plan}
use Rattle.plan.specs.declared.admission.Own.TheVariants.{Nothing, Row}
use Rattle.plan.specs.Causes.{first, leaves}
use Rattle.plan.specs.Numbers.{Within, columns}
use Rattle.plan.specs.Parts.{Given, check_causes}
use Rattle.plan.proofs.Refusals.{none-met}
use Rattle.plan.proofs.Admitting.{unrefused, accepted-call}
use Rattle.plan.proofs.Bounds.{prime-low}
use Rattle.program.specs.Layout.{layout, step_count}
use Rattle.program.specs.Calls.{write_own, write_causes, handed, writer_hands}
use Rattle.program.proofs.Shape.{layout-length}
use Rattle.readback.specs.Recovery.{recovered, is_written, steps_own, steps_causes, Written}
use Rattle.readback.proofs.Places.{recovered-length, recovered-layout}

-- the test
module _ (P : Plan) (w d steps : List ℕ) where
  pub written-unlike : (length steps ≡ 4 * step_count P → ⊥) → is_written P w d steps ≡ false
  unfolding is_written
  written-unlike h =
      let β = recovered P steps in
      rw (same-unlike steps (layout P w d β) (λ e. h (e ∙ layout-length P w d β))) (and-false (all_below P.p β))

  pub written_none : all_below P.p (recovered P steps) ≡ false → is_written P w d steps ≡ false
  unfolding is_written
  written_none h = rw h

  pub written_as : all_below P.p (recovered P steps) ≡ true → is_written P w d steps ≡ same steps (layout P w d (recovered P steps))
  unfolding is_written
  written_as h = rw h

  pub written_below : is_written P w d steps ≡ true → all_below P.p (recovered P steps) ≡ true
  unfolding is_written
  written_below h = (both_true (all_below P.p (recovered P steps)) (same steps (layout P w d (recovered P steps))) h).0

module _ (G : Given) (steps : List ℕ) where
  pub written_one : (β : List ℕ) → Written G steps β → recovered G.numbers steps ≡ β
  written_one β h = ap (recovered G.numbers) (sym h.list) ∙ recovered-layout G.numbers G.weights G.products β h.places

  pub written_of : (β : List ℕ) → Written G steps β → is_written G.numbers G.weights G.products steps ≡ true
  unfolding is_written
  written_of β h =
      let P = G.numbers in
      let w = G.weights in
      let d = G.products in
      let one = written_one β h in
      rw one (both (all_below P.p β) (same steps (layout P w d β)) (below_of P.p β h.residues) (rw h.list (same_refl steps)))

  pub written-test : Within G.numbers → is_written G.numbers G.weights G.products steps ≡ true → Written G steps (recovered G.numbers steps)
  unfolding is_written
  written-test within h =
      let P = G.numbers in
      let β = recovered P steps in
      let b = both_true (all_below P.p β) (same steps (layout P G.weights G.products β)) h in
      record {
        places = recovered-length P steps;
        residues = residues-of P.p β (omega (arith, prime-low within)) b.0;
        list = sym (same_true steps (layout P G.weights G.products β) b.1);
      }

-- the call, under a plan that is accepted by itself
module _ (G : Given) (accepted : first (check_causes G) ≡ 0) (steps β₀ : List ℕ) (room : length β₀ ≡ columns G.numbers) where
  call : first (steps_causes G steps β₀) ≡ first (steps_own steps G)
  call = accepted-call G accepted (Row (length β₀)) (steps_own steps) (eq-eqb (length β₀) (columns G.numbers) room)

  passed : first (steps_causes G steps β₀) ≡ 0 → is_written G.numbers G.weights G.products steps ≡ true
  passed e = not-false _ (none-met (steps_own steps G) (omega arith) (sym call ∙ e)).0

  pub steps-exactly : (first (steps_causes G steps β₀) ≡ 0) ↔ ((β : List ℕ) × Written G steps β)
  steps-exactly = (
    (λ e. (recovered G.numbers steps, written-test G steps (unrefused G Nothing (λ _. []) accepted).within (passed e))),
    (λ x. call ∙ rw (written_of G steps x.0 x.1)),
  )

  pub steps-refused : (((β : List ℕ) × Written G steps β) → ⊥) → first (steps_causes G steps β₀) ≡ 15
  steps-refused none = call ∙ by (is_written G.numbers G.weights G.products steps) refl
    where
      by : (b : Bool) → is_written G.numbers G.weights G.products steps ≡ b → first (steps_own steps G) ≡ 15
      by true t = absurd (none (recovered G.numbers steps, written-test G steps (unrefused G Nothing (λ _. []) accepted).within t))
      by false t = rw t

  -- what is left in β: the coefficients that write the list, and no others do
  pub record Returned (left : List ℕ) : Type 0 where
    pub again : Written G steps left
    pub hands : (out : List ℕ) → length steps ≤ length out → writer_hands G left out ≡ steps
    pub only : (β : List ℕ) → Written G steps β → β ≡ left

  pub steps-again : first (steps_causes G steps β₀) ≡ 0 → Returned (leaves (first (steps_causes G steps β₀)) (recovered G.numbers steps) β₀)
  unfolding handed
  steps-again e =
      let P = G.numbers in
      let β = recovered P steps in
      let within = (unrefused G Nothing (λ _. []) accepted).within in
      let written = written-test G steps within (passed e) in
      rw e (record {
        again = written;
        hands = λ out l.
            let places = written.places in
            let fits = eq-eqb (length β) (columns P) places in
            let size : 4 * step_count P ≤ length out = omega (arith, l, sym (layout-length P G.weights G.products β) ∙ ap length written.list) in
            let none : first (write_causes G β out) ≡ 0 =
            accepted-call G accepted (Row (length β)) (write_own β (length out)) fits ∙ rw (below_of P.p β written.residues, le-ltb (length out) (4 * step_count P) size) in
            rw none written.list;
        only = λ γ h. sym (written_one G steps γ h);
      })
