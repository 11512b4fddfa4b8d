-- `store::elimination::file_equation` meets its contract: the residual is the local array's front; by its first coefficient the equation is
-- new, and else by its right-hand side implied or a contradiction (`Outcomes`). Assumes nothing.
use mathlib.Core.Path.{sym, ◌∙◌}
use native.Mathlib.Nat.{le_refl}
use native.Mathlib.Omega.{arith}
use Rattle.store.proofs.Outcomes.{is-left, left_at, left-line, last-at, lead-room, lead-length, lead-found, lead-missing, lead-left, new-answer, new-store, conflict-answer, implied-answer, same_store}
use Rattle.store.proofs.elimination.file_equation.Goals as goal

pub slice_bounds-res-end-2 : goal.slice_bounds-res-end-2
slice_bounds-res-end-2 c =
    let left = is-left _ _ _ _ _ c.residual.ensures in
    lead-room left _

pub slice_bounds-lead-end : goal.slice_bounds-lead-end
slice_bounds-lead-end c =
    let left = is-left _ _ _ _ _ c.residual.ensures in
    sym (lead-length left _)

pub insert_row-requires : goal.insert_row-requires
insert_row-requires c =
    let left = is-left _ _ _ _ _ c.residual.ensures in
    let found = lead-found left _ _ c.in-Some.ensures in
    record {
      ready = c.requires.ready;
      line = left-line left _ (omega (arith, c.requires.ready.modulus.0));
      k_lt_c = found.0;
      by_index = λ j l. left_at left _ j (omega (arith, found.0)) ∙ lead-left found.1 j l;
    }

pub returns-in-Some : goal.returns-in-Some
returns-in-Some c =
    let left = is-left _ _ _ _ _ c.residual.ensures in
    let found = lead-found left _ _ c.in-Some.ensures in
    record {
      result_value = new-answer found.1 found.0;
      store_after = c.insert_row.ensures ∙ new-store found.1 found.0 _ (left_at left _);
    }

pub returns-then-res-c-ne0 : goal.returns-then-res-c-ne0
returns-then-res-c-ne0 c =
    let left = is-left _ _ _ _ _ c.residual.ensures in
    let none = lead-missing left _ c.in_default.ensures in
    record {
      result_value = conflict-answer none (le_refl _) (λ z. c.if-res-c-ne0.true (last-at left _ ∙ z));
      store_after = same_store none (le_refl _) c.requires.ready.places;
    }

pub returns : goal.returns
returns c =
    let left = is-left _ _ _ _ _ c.residual.ensures in
    let none = lead-missing left _ c.in_default.ensures in
    record {
      result_value = implied-answer none (le_refl _) (sym (last-at left _) ∙ c.if-res-c-ne0.false);
      store_after = same_store none (le_refl _) c.requires.ready.places;
    }
