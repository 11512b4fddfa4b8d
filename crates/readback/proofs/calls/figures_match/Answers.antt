-- `readback::calls::figures_match` meets its contract: `==` of the three numbers and the three figures. Assumes nothing.
use mathlib.Core.Path.{ap, ap₂, ◌∙◌}
use mathlib.Core.List.{[], ◌∷◌}
use Prim.Native.Nat.{ℕ, ◌+◌, ◌*◌}
use Rattle.lists.specs.Places.{same}
use Rattle.lists.proofs.Sameness.{eq-same}
use Rattle.readback.proofs.calls.figures_match.Goals as goal

pub returns : goal.returns
returns c =
    let P = c.args.plan.now.numbers in
    c.eq.ensures
    ∙ eq-same c.args.found.now _
    ∙ ap (same c.args.found.now)
    (c.as_slice.ensures ∙ ap₂ (λ (count norm : ℕ). (P.m + 2 * P.t) ∷ count ∷ norm ∷ []) c.step_count.ensures c.worst.ensures)
