-- What every call that is lent a plan does first (`admitted` of specs/Parts), and what its answer says of the call's causes. A call's refusal
-- is that of its numbers, else that of its parts, else that of its own causes (`split`); all else is the arithmetic of `or_else`.
--     lent_of                                       parts that meet neither of causes 4 and 5 are lent as the plan asks
--     admit-numbers, admit-parts, admit-passed      what `admit` answers, from the constructor's and the parts' refusals
--     Admitted, admission                           an admitted call: its plan is within its limits, its parts are as the plan asks, and only its
--                                                   own causes are left
--     Passing, passing                              the same by what `admit` answers
--     size-limit                                    the size of a store, in the layout before too, within the limits of a plan
--     turned-away                                   a call that is not admitted: the refusal is the call's
--     Unrefused, unrefused                          a call that is not refused meets none of its causes
--     other-causes                                  another call on the same plan and parts is then left its own causes alone
--     accepted-call                                 a call that is lent an accepted plan, and its own parts in their lengths
-- Assumes nothing.
use mathlib.Core.Path.{◌≡◌, refl, sym, ap, ap₂, subst, ◌∙◌}
use mathlib.Core.Bool.{Bool, true, ◌&&◌}
use mathlib.Core.List.{List, [], ◌++◌}
use Prim.Native.Nat.{ℕ, zero, suc, ◌+◌, ◌*◌, ◌≤◌, ◌<◌}
use native.Mathlib.Nat.{mul-le-mul}
use native.Mathlib.Omega.{arith}
use lib.Dec.{eqb}
use lib.ListN.{length}
use borrow.Author.Tests.{eqb-true, not-false}
use Rattle.lists.proofs.Tests.{both_true}
use Rattle.field.specs.Rows.{all_below}
use Rattle.field.proofs.Ranges.{residues-of}
use Rattle.plan.specs.Causes.{first, gives, refuses}
use Rattle.plan.specs.Numbers.{variables, product, radices_fit, number_causes, plan, numbers_of, checked, Within}
use Rattle.plan.specs.Parts.{Given, lend, given, link_start, lengths_fit, values_fit, full_size, own_fits, part_causes, call_causes, check_causes, admitted, Lent}
use Rattle.plan.specs.declared.numbers.Plan.{Plan}
use Rattle.plan.specs.declared.admission.Own.{Own}
use Rattle.plan.specs.declared.admission.Own.TheVariants.{Nothing}
use Rattle.plan.specs.Lending.{whole}
use Rattle.plan.specs.declared.lending.CheckedPlan.{CheckedPlan}
use Rattle.plan.proofs.Bounds.{prime-low}
use Rattle.plan.proofs.Refusals.{or_else, first-append, none-met, answer-refuses, answer-gives, refused-answer, given-answer}
use Rattle.plan.proofs.Limits.{numbers-same, within_of, radices-of, refused-number, accepted-plan}

pub size-limit : (C : ℕ) → C ≤ 1024 → full_size C ≤ 1049600
unfolding full_size
size-limit C l = let l' : C + 1 ≤ 1025 = omega arith in mul-le-mul l l'

pub lent_of : (G : Given) (fits : Bool) → Within G.numbers → radices_fit G.numbers.p G.radices ≡ true → product G.radices ≤ 4096
    → first (part_causes G fits) ≡ 0 → Lent G × (fits ≡ true)
unfolding lengths_fit values_fit
lent_of G fits within fit limit h =
    let P = G.numbers in
    let R = G.radices in
    let w = G.weights in
    let T = G.tables in
    let d = G.products in
    let none = none-met (part_causes G fits) (omega arith) h in
    let count = both_true (eqb (length R) P.n) (lengths_fit P w T d && fits) (not-false (eqb (length R) P.n && (lengths_fit P w T d && fits)) none.0) in
    let all = both_true (lengths_fit P w T d) fits count.1 in
    let pos : 0 < P.p = omega (arith, prime-low within) in
    let l1 = both_true (eqb (length w) (link_start P P.m)) (eqb (length T) (P.m * P.p) && eqb (length d) (P.t * variables P)) all.0 in
    let l2 = both_true (eqb (length T) (P.m * P.p)) (eqb (length d) (P.t * variables P)) l1.1 in
    let v1 = both_true (all_below P.p w) (all_below P.p T && all_below P.p d) (not-false (values_fit P w T d) none.1.0) in
    let v2 = both_true (all_below P.p T) (all_below P.p d) v1.1 in (
      record {
        radices = record { count = eqb-true (length R) P.n count.0; fit = fit; limit = limit };
        weights-length = eqb-true (length w) (link_start P P.m) l1.0;
        tables-length = eqb-true (length T) (P.m * P.p) l2.0;
        products-length = eqb-true (length d) (P.t * variables P) l2.1;
        weights-residues = residues-of P.p w pos v1.0;
        tables-residues = residues-of P.p T pos v2.0;
        products-residues = residues-of P.p d pos v2.1;
      },
      all.1,
    )

-- three refusals in turn
only-last : (a b c : ℕ) → a ≡ 0 → b ≡ 0 → or_else a (or_else b c) ≡ c
only-last a b c ha hb = ap (λ (k : ℕ). or_else k (or_else b c)) ha ∙ ap (λ (k : ℕ). or_else k c) hb

none_of : (a b c : ℕ) → or_else a (or_else b c) ≡ 0 → (a ≡ 0) × (b ≡ 0) × (c ≡ 0)
none_of zero zero c e = (refl, refl, e)
none_of zero (suc b) c e = absurd (omega arith)
none_of (suc a) b c e = absurd (omega arith)

early : (a b c k : ℕ) → or_else a (or_else b 0) ≡ k → 0 < k → k ≡ or_else a (or_else b c)
early zero zero c k e l = absurd (omega arith)
early zero (suc b) c k e l = sym e
early (suc a) b c k e l = sym e

module _ (G : Given) (own : Own) where
  numbered : List (ℕ × Bool)
  numbered = number_causes G.numbers.p G.numbers.s G.numbers.n G.numbers.m G.numbers.t G.radices

  parts : List (ℕ × Bool)
  parts = part_causes G (own_fits own G.numbers G.radices)

  split : (rest : Given → List (ℕ × Bool)) → first (call_causes G own rest) ≡ or_else (first numbered) (or_else (first parts) (first (rest G)))
  unfolding call_causes numbered parts
  split rest =
      first-append numbered (parts ++ rest G) (omega arith) ∙ ap (or_else (first numbered)) (first-append parts (rest G) (omega arith))

  -- a call that is not refused
  pub record Unrefused (rest : Given → List (ℕ × Bool)) : Type 0 where
    pub within : Within G.numbers
    pub lent : Lent G
    pub own-fits : own_fits own G.numbers G.radices ≡ true
    pub rest-none : first (rest G) ≡ 0

  pub unrefused : (rest : Given → List (ℕ × Bool)) → first (call_causes G own rest) ≡ 0 → Unrefused rest
  unfolding numbered parts
  unrefused rest e =
      let none = none_of (first numbered) (first parts) (first (rest G)) (sym (split rest) ∙ e) in
      let within = within_of G.numbers.p G.numbers.s G.numbers.n G.numbers.m G.numbers.t G.radices none.0 in
      let fit = radices-of G.numbers.p G.numbers.s G.numbers.n G.numbers.m G.numbers.t G.radices none.0 in
      let lent = lent_of G (own_fits own G.numbers G.radices) within fit.0 fit.1 none.1 in
      record { within = within; lent = lent.0; own-fits = lent.1; rest-none = none.2 }

  -- then another call on the same plan and parts is left its own causes alone
  pub other-causes : (rest others : Given → List (ℕ × Bool)) → first (call_causes G own rest) ≡ 0 → first (call_causes G own others) ≡ first (others G)
  other-causes rest others e =
      let none = none_of (first numbered) (first parts) (first (rest G)) (sym (split rest) ∙ e) in
      split others ∙ only-last (first numbered) (first parts) (first (others G)) none.0 none.1

  pub turned-away : {k : ℕ} → refuses k ≡ admitted G own → (rest : Given → List (ℕ × Bool)) → (k ≡ first (call_causes G own rest)) × (0 < k)
  unfolding admitted
  turned-away {k} e rest =
      let r = answer-refuses (first (call_causes G own (λ _. []))) (numbers_of G.numbers) k (sym e) in
      (early (first numbered) (first parts) (first (rest G)) k (sym (split (λ _. [])) ∙ r.0) r.1 ∙ sym (split rest), r.1)

  -- only the call's own causes are left
  pub record Admitted (Q : Plan) : Type 1 where
    pub same : G.numbers ≡ Q
    pub within : Within Q
    pub lent : Lent (lend Q G.radices G.weights G.tables G.products)
    pub own-fits : own_fits own Q G.radices ≡ true
    pub rest : (causes : Given → List (ℕ × Bool)) → first (call_causes G own causes) ≡ first (causes (lend Q G.radices G.weights G.tables G.products))

  pub admission : {Q : Plan} → admitted G own ≡ gives (numbers_of Q) → Admitted Q
  unfolding admitted
  admission {Q} e =
      let a = answer-gives (first (call_causes G own (λ _. []))) (numbers_of G.numbers) (numbers_of Q) e in
      let none = none_of (first numbered) (first parts) 0 (sym (split (λ _. [])) ∙ a.0) in
      let u = unrefused (λ _. []) a.0 in
      subst Admitted (numbers-same G.numbers Q a.1) (record {
        same = refl;
        within = u.within;
        lent = u.lent;
        own-fits = u.own-fits;
        rest = λ causes. split causes ∙ only-last (first numbered) (first parts) (first (causes G)) none.0 none.1;
      })

  -- the same of what `admit` answers, whose parts are those lent: it has its limits with it
  pub record Passing (Q : CheckedPlan) : Type 1 where
    pub own-fits : own_fits own Q.numbers Q.radices.now ≡ true
    pub rest : (causes : Given → List (ℕ × Bool)) → first (call_causes G own causes) ≡ first (causes (whole Q))

  pub passing : (Q : CheckedPlan) → record { answer : gives (numbers_of Q.numbers) ≡ admitted G own; same : whole Q ≡ G } → Passing Q
  passing Q e =
      let a = admission (sym e.answer) in
      let back : lend Q.numbers G.radices G.weights G.tables G.products ≡ whole Q = ap (λ (P : Plan). lend P G.radices G.weights G.tables G.products) (sym a.same) ∙ sym e.same in
      record {
        own-fits = ap (λ (H : Given). own_fits own H.numbers H.radices) (sym back) ∙ a.own-fits;
        rest = λ causes. a.rest causes ∙ ap (λ (H : Given). first (causes H)) back;
      }

-- a plan that is accepted by itself leaves a call its own causes alone
pub accepted-call : (G : Given) → first (check_causes G) ≡ 0 → (own : Own) (rest : Given → List (ℕ × Bool)) → own_fits own G.numbers G.radices ≡ true
    → first (call_causes G own rest) ≡ first (rest G)
unfolding numbered parts
accepted-call G accepted own rest e =
    let none = none_of (first (numbered G Nothing)) (first (parts G Nothing)) 0 (sym (split G Nothing (λ _. [])) ∙ accepted) in
    split G own rest
    ∙ only-last (first (numbered G own)) (first (parts G own)) (first (rest G)) none.0 (ap (λ (b : Bool). first (part_causes G b)) e ∙ none.1)

-- what `admit` answers, by the constructor's answer and the parts' refusal
module _ (p s n m t : ℕ) (R w T d : List ℕ) (own : Own) where
  refusal_is : (a b k : ℕ) → first (number_causes p s n m t R) ≡ a → first (part_causes (given p s n m t R w T d) (own_fits own (plan p s n m t) R)) ≡ b
      → or_else a (or_else b 0) ≡ k → first (call_causes (given p s n m t R w T d) own (λ _. [])) ≡ k
  unfolding numbered parts
  refusal_is a b k ha hb e = split (given p s n m t R w T d) own (λ _. []) ∙ ap₂ (λ (i j : ℕ). or_else i (or_else j 0)) ha hb ∙ e

  -- k is not 0
  decides : (k j : ℕ) → 0 < k → or_else k j ≡ k
  decides zero j l = absurd (omega arith)
  decides (suc k) j l = refl

  pub admit-numbers : (k : ℕ) → checked p s n m t R ≡ refuses k → refuses k ≡ admitted (given p s n m t R w T d) own
  unfolding admitted
  admit-numbers k e =
      let r = refused-number p s n m t R k e in
      refused-answer k _ (numbers_of (plan p s n m t)) (sym (refusal_is k _ k r.0 refl (decides k _ r.1))) r.1

  module _ (Q : Plan) (e : checked p s n m t R ≡ gives (numbers_of Q)) where
    over : (k : ℕ) → k ≡ first (part_causes (lend Q R w T d) (own_fits own Q R)) → first (call_causes (given p s n m t R w T d) own (λ _. [])) ≡ or_else k 0
    over k h =
        let a = accepted-plan p s n m t R e in
        refusal_is 0 k (or_else k 0) a.0 (ap (λ (P : Plan). first (part_causes (lend P R w T d) (own_fits own P R))) a.1 ∙ sym h) refl

    pub admit-parts : (k : ℕ) → k ≡ first (part_causes (lend Q R w T d) (own_fits own Q R)) → 0 < k → refuses k ≡ admitted (given p s n m t R w T d) own
    unfolding admitted
    admit-parts k h l = refused-answer k _ (numbers_of (plan p s n m t)) (sym (over k h ∙ decides k 0 l)) l

    pub admit-passed : 0 ≡ first (part_causes (lend Q R w T d) (own_fits own Q R)) → gives (numbers_of Q) ≡ admitted (given p s n m t R w T d) own
    unfolding admitted
    admit-passed h =
        ap (λ (P : Plan). gives (numbers_of P)) (sym (accepted-plan p s n m t R e).1) ∙ given-answer _ (numbers_of (plan p s n m t)) (over 0 h)
