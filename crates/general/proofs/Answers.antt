-- What the call answers and leaves where it is admitted.
--     suited-call       yes or no by what the test said, and the work store empty; H is the plan as it was admitted
-- Assumes nothing.
use mathlib.Core.Path.{◌≡◌, sym, ap, ap₂, ◌∙◌}
use mathlib.Core.Bool.{Bool, cond}
use mathlib.Core.List.{List, [], ◌∷◌}
use Prim.Native.Nat.{ℕ}
use Rattle.plan.specs.Causes.{leaves, gives, answer}
use Rattle.plan.specs.Parts.{Given}
use Rattle.store.specs.Calls.{empty_store}
use Rattle.general.specs.Suits.{is_general}

pub suited-call : (G H : Given) (F : ℕ) (b : Bool) (out old : List ℕ) → G ≡ H → F ≡ 0 → b ≡ is_general H → out ≡ empty_store H.numbers
    → (gives (cond b 1 0 ∷ []) ≡ answer F (cond (is_general G) 1 0 ∷ [])) × (out ≡ leaves F (empty_store G.numbers) old)
suited-call G H F b out old same none said left = (
  ap₂ (λ (k : ℕ) (a : Bool). answer k (cond a 1 0 ∷ [])) (sym none) (said ∙ ap is_general (sym same)),
  left ∙ ap₂ (λ (k : ℕ) (K : Given). leaves k (empty_store K.numbers) old) (sym none) (sym same),
)
