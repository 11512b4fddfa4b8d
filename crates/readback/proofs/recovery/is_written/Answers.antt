-- `readback::recovery::is_written` meets its contract: the length, the numbers read, and the list that they write (`StepsBack`).
-- Assumes nothing.
use mathlib.Core.Path.{◌≡◌, sym, ap, ◌∙◌}
use mathlib.Core.List.{List}
use Prim.Native.Nat.{ℕ, ◌*◌, ◌≤◌}
use native.Mathlib.Omega.{arith}
use lib.ListN.{length}
use lib.Seq.{length-take-le}
use Rattle.lists.specs.Places.{same}
use Rattle.lists.proofs.Placing.{placed-whole}
use Rattle.plan.specs.declared.numbers.Plan.{Plan}
use Rattle.plan.specs.Numbers.{Within}
use Rattle.program.specs.Layout.{layout, step_count}
use Rattle.program.proofs.Shape.{layout-length, step-limit}
use Rattle.readback.proofs.StepsBack.{written-unlike, written_none, written_as}
use Rattle.readback.proofs.recovery.is_written.Goals as goal

-- the program fits in the array of a whole program
fits : (P : Plan) (count : ℕ) (buffer : List ℕ) → Within P → count ≡ step_count P → 17228 ≡ length buffer → 4 * count ≤ length buffer
fits P count buffer within e large = omega (arith, step-limit P within, e, large)

pub overflow_mul-end : goal.overflow_mul-end
overflow_mul-end c = omega (arith, step-limit _ c.args.plan.now.within, c.step_count-end.ensures)

pub returns-then-steps-end-clause-value : goal.returns-then-steps-end-clause-value
returns-then-steps-end-clause-value c =
    sym (written-unlike _ _ _ _ (λ e. omega (arith, e, c.if-steps-end.true, c.step_count-end.ensures)))

pub returns-then-not-recover-clause-value : goal.returns-then-not-recover-clause-value
returns-then-not-recover-clause-value c = sym (written_none _ _ _ _ (sym c.if-not-recover.ensures.value))

pub slice_bounds-buffer-end : goal.slice_bounds-buffer-end
slice_bounds-buffer-end c = fits _ _ _ c.args.plan.now.within c.step_count-end.ensures c.steps_buffer-buffer.ensures.value

pub slice_bounds-again-end : goal.slice_bounds-again-end
slice_bounds-again-end c =
    sym (length-take-le _ _ (fits _ _ c.steps_buffer-buffer.result c.args.plan.now.within c.step_count-end.ensures c.steps_buffer-buffer.ensures.value))

pub put_program-requires-clause-room : goal.put_program-requires-clause-room
put_program-requires-clause-room c =
    let plan = c.args.plan.now in
    let part = length-take-le _ _ (fits _ _ c.steps_buffer-buffer.result plan.within c.step_count-end.ensures c.steps_buffer-buffer.ensures.value) in
    omega (arith, part, c.step_count-end.ensures, layout-length plan.numbers plan.weights.now plan.products.now c.recover.new.found)

pub returns-clause-value : goal.returns-clause-value
returns-clause-value c =
    let plan = c.args.plan.now in
    let steps : List ℕ = c.args.steps.now in
    let program = layout plan.numbers plan.weights.now plan.products.now in
    let part = length-take-le _ _ (fits _ _ c.steps_buffer-buffer.result plan.within c.step_count-end.ensures c.steps_buffer-buffer.ensures.value) in
    let size = layout-length plan.numbers plan.weights.now plan.products.now c.recover.new.found in
    let again = c.put_program.ensures ∙ placed-whole _ _ (omega (arith, part, c.step_count-end.ensures, size)) in
    c.same_numbers.ensures
    ∙ ap (same steps) (again ∙ ap program (c.recover.ensures.found_after c.if-not-recover.false))
    ∙ sym (written_as plan.numbers plan.weights.now plan.products.now steps (sym c.if-not-recover.ensures.value))
