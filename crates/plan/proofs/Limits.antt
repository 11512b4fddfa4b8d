-- The constructor's answer, and what it says of the plan's numbers and radices.
--     within_of, radices-of                                                numbers and radices that meet none of causes 1 to 3 are within their limits
--     refused-number, accepted-plan, accepted-radices, accepted-within     what the constructor's answer says
-- Assumes nothing.
use mathlib.Core.Path.{◌≡◌, sym, ap, subst, ◌∙◌}
use mathlib.Core.Bool.{true, false, not, ◌||◌}
use mathlib.Core.List.{List}
use Prim.Native.Nat.{ℕ, ◌+◌, ◌*◌, ◌≤◌, ◌<◌}
use native.Mathlib.Omega.{arith}
use lib.Dec.{ltb}
use borrow.Author.Tests.{ltb-false, not-false}
use Rattle.lists.specs.Places.{at}
use Rattle.field.specs.Primes.{odd_prime}
use Rattle.plan.specs.Causes.{first, gives, refuses}
use Rattle.plan.specs.Numbers.{product, bad_radix, radices_fit, out_of_range, number_causes, plan, numbers_of, checked, Within}
use Rattle.plan.specs.declared.numbers.Plan.{Plan}
use Rattle.plan.proofs.Refusals.{none-met, answer-refuses, answer-gives}
use Rattle.plan.proofs.Radix.{neither, radix-facts}

InRange : ℕ → ℕ → ℕ → Type 0
InRange n m t = (1 ≤ n) × (n + m ≤ 64) × (t ≤ 32) × ((t + 1) * (n + m) ≤ 1024)

range-facts : (n m t : ℕ) → out_of_range n m t ≡ false → InRange n m t
unfolding out_of_range InRange
range-facts n m t h =
    let r1 = neither (ltb n 1) (ltb 64 (n + m) || (ltb 32 t || ltb 1024 ((t + 1) * (n + m)))) h in
    let r2 = neither (ltb 64 (n + m)) (ltb 32 t || ltb 1024 ((t + 1) * (n + m))) r1.1 in
    let r3 = neither (ltb 32 t) (ltb 1024 ((t + 1) * (n + m))) r2.1 in
    (ltb-false n 1 r1.0, ltb-false 64 (n + m) r2.0, ltb-false 32 t r3.0, ltb-false 1024 ((t + 1) * (n + m)) r3.1)

module _ (p s n m t : ℕ) (R : List ℕ) where
  pub within_of : first (number_causes p s n m t R) ≡ 0 → Within (plan p s n m t)
  unfolding InRange
  within_of h =
      let none = none-met (number_causes p s n m t R) (omega arith) h in
      let value = radix-facts p s (neither (bad_radix p s) (not (radices_fit p R)) none.1.0).0 in
      let range = range-facts n m t (neither (out_of_range n m t) (ltb 4096 (product R)) none.1.1.0).0 in
      record {
        prime = not-false (odd_prime p) none.0;
        value_low = value.0;
        value-high = value.1;
        digit-count = range.0;
        variable-limit = range.1;
        products-limit = range.2;
        column-limit = range.3;
      }

  pub radices-of : first (number_causes p s n m t R) ≡ 0 → (radices_fit p R ≡ true) × (product R ≤ 4096)
  radices-of h =
      let none = none-met (number_causes p s n m t R) (omega arith) h in (
        not-false (radices_fit p R) (neither (bad_radix p s) (not (radices_fit p R)) none.1.0).1,
        ltb-false 4096 (product R) (neither (out_of_range n m t) (ltb 4096 (product R)) none.1.1.0).1,
      )

-- the numbers of a plan are the plan
pub numbers-same : (P Q : Plan) → numbers_of P ≡ numbers_of Q → P ≡ Q
numbers-same P Q e = ap (λ (ns : List ℕ). plan (at ns 0) (at ns 1) (at ns 2) (at ns 3) (at ns 4)) e

module _ (p s n m t : ℕ) (R : List ℕ) where
  pub refused-number : (k : ℕ) → checked p s n m t R ≡ refuses k → (first (number_causes p s n m t R) ≡ k) × (0 < k)
  unfolding checked
  refused-number k e = answer-refuses (first (number_causes p s n m t R)) (numbers_of (plan p s n m t)) k e

  pub accepted-plan : {Q : Plan} → checked p s n m t R ≡ gives (numbers_of Q) → (first (number_causes p s n m t R) ≡ 0) × (plan p s n m t ≡ Q)
  unfolding checked
  accepted-plan {Q} e =
      let a = answer-gives (first (number_causes p s n m t R)) (numbers_of (plan p s n m t)) (numbers_of Q) e in
      (a.0, numbers-same (plan p s n m t) Q a.1)

  pub accepted-radices : {Q : Plan} → checked p s n m t R ≡ gives (numbers_of Q) → (radices_fit Q.p R ≡ true) × (product R ≤ 4096)
  accepted-radices e =
      let a = accepted-plan e in
      let r = radices-of p s n m t R a.0 in
      (ap (λ (P : Plan). radices_fit P.p R) (sym a.1) ∙ r.0, r.1)

  pub accepted-within : {Q : Plan} → checked p s n m t R ≡ gives (numbers_of Q) → Within Q
  accepted-within e = let a = accepted-plan e in subst Within a.1 (within_of p s n m t R a.0)
