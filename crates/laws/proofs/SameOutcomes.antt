-- What a filing answers and leaves depends on the places of the store and the equation alone; which entries are New, and the coefficients that
-- they leave, on the coefficients alone, whatever the values are. Two stores and two equations agree in their first n columns here: n is C for
-- the coefficients, and C + 1 for all.
--     after-ext                     what is left agrees in them too
--     new-ext                       new is answered to both or to none
--     outcome-ext, standing-ext     the same is answered, by filing and by settling, where the right-hand sides agree
-- Assumes nothing.
use mathlib.Core.Path.{◌≡◌, refl, sym, ◌∙◌}
use mathlib.Core.Bool.{Bool, true, false, cond}
use Prim.Native.Nat.{ℕ, ◌≤◌, ◌<◌}
use native.Mathlib.Decide.{dec_lt}
use native.Mathlib.Omega.{arith}
use lib.Dec.{eqb}
use borrow.Author.Tests.{lt-ltb, le-ltb}
use Rattle.store.specs.Elimination.{implied, contradiction, residual, lead, normal, outcome, after}
use Rattle.store.specs.Filings.{is_new}
use Rattle.store.specs.Settled.{standing}
use Rattle.store.proofs.Leads.{lead-ext}
use Rattle.store.proofs.Residuals.{residual-ext}
use Rattle.store.proofs.SamePlaces.{normal-ext, inserted-ext}

module _ (p C n : ℕ) (wide : C ≤ n) (S S' : ℕ → ℕ → ℕ) (same : (q j : ℕ) → q < C → j < n → S q j ≡ S' q j)
    (e e' : ℕ → ℕ) (equal : (j : ℕ) → j < n → e j ≡ e' j) where
  residuals : (j : ℕ) → j < n → residual p C S e j ≡ residual p C S' e' j
  residuals j l = residual-ext p C S S' e e' j (λ q k. same q j k l) (λ q k. equal q (omega arith)) (equal j l)

  leads : lead (residual p C S e) C ≡ lead (residual p C S' e') C
  leads = lead-ext (residual p C S e) (residual p C S' e') C (λ j l. residuals j (omega arith))

  pub after-ext : (q j : ℕ) → q < C → j < n → after p C S e q j ≡ after p C S' e' q j
  unfolding after
  after-ext q j l k = rw leads (elim (dec_lt c C) [
    | yes h ↦
        let inside : c < n = omega arith in
        rw (lt-ltb c C h)
        (inserted-ext p S S' (normal p (residual p C S e) c) (normal p (residual p C S' e') c) c q j (same q j l k) (same q c l inside)
        (normal-ext p (residual p C S e) (residual p C S' e') c j (residuals c inside) (residuals j k)))
    | no h ↦
        let out : C ≤ c = omega arith in
        rw (le-ltb c C out) (same q j l k)
  ])
    where
      c : ℕ
      c = lead (residual p C S' e') C

  pub new-ext : is_new (outcome p C S e) ≡ is_new (outcome p C S' e')
  unfolding outcome
  new-ext = rw leads (elim (dec_lt (lead (residual p C S' e') C) C) [
    | yes h ↦ rw (lt-ltb (lead (residual p C S' e') C) C h)
    | no h ↦
        let out : C ≤ lead (residual p C S' e') C = omega arith in
        rw (le-ltb (lead (residual p C S' e') C) C out) (neither (eqb (residual p C S e C) 0) ∙ sym (neither (eqb (residual p C S' e' C) 0)))
  ])
    where
      neither : (b : Bool) → is_new (cond b implied contradiction) ≡ false
      neither true = refl
      neither false = refl

  pub outcome-ext : C < n → outcome p C S e ≡ outcome p C S' e'
  unfolding outcome
  outcome-ext l = rw (leads, residuals C l)

  pub standing-ext : C < n → standing p C S e ≡ standing p C S' e'
  unfolding standing
  standing-ext l = rw (leads, residuals C l)
