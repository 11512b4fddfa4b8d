-- `plan::lending::LentPlan::admit` meets its contract: the constructor's refusal, the parts', or the plan (`Admitting`). Assumes nothing.
use Rattle.std.specs.Prelude.{◌≡◌, Bool, List, ℕ}
use mathlib.Core.Path.{sym, ap, ◌∙◌}
use Rattle.std.proofs.lemmas.Result.{err_from_is_err_and}
use Rattle.plan.specs.Causes.{first}
use Rattle.plan.specs.Parts.{lend, part_causes}
use Rattle.plan.specs.declared.numbers.Plan.{Plan}
use Rattle.plan.proofs.Limits.{accepted-plan, accepted-radices, accepted-within}
use Rattle.plan.proofs.Refusals.{number-positive}
use Rattle.plan.proofs.Admitting.{lent_of, admit-numbers, admit-parts, admit-passed}
use Rattle.plan.proofs.lending.LentPlan.admit.Goals as goal

pub returns-in_err-numbers-clause-answer : goal.returns-in_err-numbers-clause-answer
returns-in_err-numbers-clause-answer c =
    let p = err_from_is_err_and c.from_residual.result c.from_residual.ensures.1 in
    rw (p.1, p.2) (admit-numbers _ _ _ _ _ _ _ _ _ _ _ (sym c.in_err-numbers.ensures))

pub own_fits-requires : goal.own_fits-requires
own_fits-requires c =
    let r = accepted-radices _ _ _ _ _ _ (sym c.in_ok-numbers.ensures) in record {
      within = accepted-within _ _ _ _ _ _ (sym c.in_ok-numbers.ensures);
      radices_value = r.0;
      radices_bound = r.1;
    }

pub check_parts-requires : goal.check_parts-requires
check_parts-requires c = accepted-within _ _ _ _ _ _ (sym c.in_ok-numbers.ensures)

-- the parts' refusal with the test of the call's own parts in it
tested : (Q : Plan) (R w T d : List ℕ) (b own : Bool) (k : ℕ) → k ≡ first (part_causes (lend Q R w T d) b) → b ≡ own → k ≡ first (part_causes (lend Q R w T d) own)
tested Q R w T d b own k h e = h ∙ ap (λ (x : Bool). first (part_causes (lend Q R w T d) x)) e

pub returns-in_err-check_parts-clause-answer : goal.returns-in_err-check_parts-clause-answer
returns-in_err-check_parts-clause-answer c =
    let p = err_from_is_err_and c.from_residual-in_err-check_parts.result c.from_residual-in_err-check_parts.ensures.1 in
    let parts = tested _ _ _ _ _ _ _ _ c.in_err-check_parts.ensures c.own_fits.ensures in
    rw (p.1, p.2) (admit-parts _ _ _ _ _ _ _ _ _ _ _ (sym c.in_ok-numbers.ensures) _ parts (number-positive _))

pub invariant_of-result : goal.invariant_of-result
invariant_of-result c =
    let within = accepted-within _ _ _ _ _ _ (sym c.in_ok-numbers.ensures) in
    let r = accepted-radices _ _ _ _ _ _ (sym c.in_ok-numbers.ensures) in
    let self = c.args.self.now in record {
      within = within;
      lent = (lent_of (lend c.in_ok-numbers.numbers self.radices.now self.weights.now self.tables.now self.products.now) _ within r.0 r.1
          (sym c.in_ok-check_parts.ensures)).0;
    }

pub returns-clause-answer : goal.returns-clause-answer
returns-clause-answer c =
    admit-passed _ _ _ _ _ _ _ _ _ _ _ (sym c.in_ok-numbers.ensures) (tested _ _ _ _ _ _ _ _ c.in_ok-check_parts.ensures c.own_fits.ensures)

pub returns-clause-same : goal.returns-clause-same
returns-clause-same c =
    let self = c.args.self.now in
    ap (λ (P : Plan). lend P self.radices.now self.weights.now self.tables.now self.products.now)
    (sym (accepted-plan _ _ _ _ _ _ (sym c.in_ok-numbers.ensures)).1)
