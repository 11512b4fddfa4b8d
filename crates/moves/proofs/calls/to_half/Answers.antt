-- `moves::calls::to_half` meets its contract: what `admit` refuses, else cause 6 of the store that is read (`Admitting` of plan), and only the
-- last return has written the other. Assumes nothing.
use mathlib.Core.Path.{sym, ap, ◌∙◌}
use borrow.Author.Tests.{eqb-true}
use Rattle.std.specs.Prelude.{ℕ}
use Rattle.std.proofs.lemmas.Result.{err_from_is_err_and}
use Rattle.lists.proofs.Tests.{both_true}
use Rattle.plan.specs.Numbers.{columns}
use Rattle.plan.specs.Parts.{Given, store_size, full_size}
use Rattle.plan.proofs.Bounds.{modulus}
use Rattle.plan.proofs.Admitting.{passing, turned-away}
use Rattle.store.specs.Elimination.{is_reduced}
use Rattle.moves.specs.Moves.{halved, full_cells}
use Rattle.store.proofs.StoreCalls.{columns-small}
use Rattle.moves.proofs.calls.to_half.Goals as goal

pub returns-in_err-plan-clause-refusal : goal.returns-in_err-plan-clause-refusal
returns-in_err-plan-clause-refusal c =
    let p = err_from_is_err_and c.from_residual.result c.from_residual.ensures.1 in
    rw (p.1, p.2) (turned-away _ _ c.in_err-plan.ensures.answer _).0

pub is_reduced_full-requires : goal.is_reduced_full-requires
is_reduced_full-requires c =
    let plan = c.in_ok-plan.plan in
    let fits = both_true _ _ (passing _ _ plan c.in_ok-plan.ensures).own-fits in record {
      c_bound = columns-small _ plan.within c.columns-c.ensures;
      modulus = modulus plan.within;
      full_len = eqb-true _ _ fits.1 ∙ ap full_size (sym c.columns-c.ensures);
    }

pub returns-then-not-is_reduced_full-clause-refusal : goal.returns-then-not-is_reduced_full-clause-refusal
returns-then-not-is_reduced_full-clause-refusal c =
    let damaged = ap (λ (n : ℕ). is_reduced c.in_ok-plan.plan.numbers.p n (full_cells n c.args.full.now)) (sym c.columns-c.ensures) ∙ sym c.if-not-is_reduced_full.ensures in
    sym ((passing _ _ c.in_ok-plan.plan c.in_ok-plan.ensures).rest _ ∙ rw damaged)

pub halve-requires : goal.halve-requires
halve-requires c =
    let plan = c.in_ok-plan.plan in
    let fits = both_true _ _ (passing _ _ plan c.in_ok-plan.ensures).own-fits in record {
      c_bound = columns-small _ plan.within c.columns-c.ensures;
      half_len = eqb-true _ _ fits.0 ∙ ap store_size (sym c.columns-c.ensures);
      full_len = eqb-true _ _ fits.1 ∙ ap full_size (sym c.columns-c.ensures);
    }

pub returns-clause-refusal : goal.returns-clause-refusal
returns-clause-refusal c =
    let sound = ap (λ (n : ℕ). is_reduced c.in_ok-plan.plan.numbers.p n (full_cells n c.args.full.now)) (sym c.columns-c.ensures) ∙ sym c.if-not-is_reduced_full.ensures in
    sym ((passing _ _ c.in_ok-plan.plan c.in_ok-plan.ensures).rest _ ∙ rw sound)

pub returns-clause-half_after : goal.returns-clause-half_after
returns-clause-half_after c =
    c.halve.ensures
    ∙ ap (λ (n : ℕ). halved n c.args.full.now) (c.columns-c.ensures ∙ ap (λ (G : Given). columns G.numbers) c.in_ok-plan.ensures.same)
