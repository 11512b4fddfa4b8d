-- What is known of a writing that is not refused, and what the writer hands back.
--     writing-fits      where a writing's own causes are not met, the steps fit
--     digit-residues    digits below their radices are residues
--     handed-part, handed-length       what the writer hands back, and its length
-- Assumes nothing.
use mathlib.Core.Path.{◌≡◌, sym, ap, ◌∙◌}
use mathlib.Core.Bool.{true}
use mathlib.Core.List.{List, []}
use Prim.Native.Nat.{ℕ, ◌+◌, ◌*◌, ◌≤◌}
use native.Mathlib.Decide.{dec_lt}
use native.Mathlib.Omega.{arith}
use lib.Dec.{ltb}
use lib.ListN.{length, take, drop}
use lib.Seq.{take_at, length-take-le}
use borrow.Author.Tests.{ltb-true, ltb-false}
use Rattle.lists.specs.Places.{at}
use Rattle.lists.proofs.Tests.{every-at}
use Rattle.lists.proofs.Parts.{at-past}
use Rattle.field.specs.Residues.{Residues}
use Rattle.std.specs.Prelude.{Result, Ok, Err, IfOk}
use Rattle.std.specs.Result.{result_unwrap_or}
use Rattle.plan.specs.Causes.{first, refusal_of, number}
use Rattle.plan.specs.declared.refusal.Refusal.{Refusal}
use Rattle.plan.specs.Numbers.{Within, Radices}
use Rattle.plan.specs.declared.numbers.Plan.{Plan}
use Rattle.plan.proofs.Bounds.{prime-low}
use Rattle.plan.proofs.Radix.{radices-at}
use Rattle.plan.proofs.Refusals.{none-met, leaves-refused, number-positive}
use Rattle.program.specs.Layout.{layout, step_count}
use Rattle.program.specs.Calls.{writing_causes, digits_fit, written, handed}
use Rattle.program.proofs.Shape.{layout-length}

pub writing-fits : (P : Plan) (β : List ℕ) (room : ℕ) → first (writing_causes P β room) ≡ 0 → 4 * step_count P ≤ room
writing-fits P β room e = ltb-false room (4 * step_count P) (none-met (writing_causes P β room) (omega arith) e).1.0

pub digit-residues : (P : Plan) (R digits : List ℕ) → Within P → Radices P R → length digits ≡ P.n → digits_fit R digits ≡ true → Residues P.p digits
unfolding digits_fit
digit-residues P R digits within radices size h i = elim (dec_lt i (length digits)) [
  | yes l ↦
      let below = ltb-true (at digits i) (at R i) (every-at (λ j. ltb (at digits j) (at R j)) (length digits) h i l) in
      omega (arith, below, (radices-at P.p R radices.fit i (omega (arith, radices.count))).1)
  | no l ↦ rw (at-past digits i (omega arith)) (omega (arith, prime-low within))
]

module _ (P : Plan) (w D β : List ℕ) where
  -- the part that is handed back, from the length that the writing answers: d is what stands for it in a refusal
  pub handed-part : (a : Result ℕ Refusal) (d k j : ℕ) (steps out : List ℕ) → k ≡ result_unwrap_or a d → d ≡ 0 → refusal_of a ≡ j
      → IfOk a (λ n. n ≡ 4 * step_count P) → out ≡ written (refusal_of a) P w D β steps → take k out ≡ handed j P w D β
  unfolding handed written
  handed-part (Ok n) d k j steps out end none same size e =
      ap (take k) e
      ∙ take_at (layout P w D β) (drop (0 + length (layout P w D β)) steps) k (layout-length P w D β ∙ sym size ∙ sym end)
      ∙ ap (λ (i : ℕ). handed i P w D β) same
  handed-part (Err r) d k j steps out end none same size e =
      ap (λ (i : ℕ). take i out) (end ∙ none)
      ∙ sym (leaves-refused (number r) _ [] (number-positive r))
      ∙ ap (λ (i : ℕ). handed i P w D β) same

  pub handed-length : (a : Result ℕ Refusal) (d k : ℕ) (steps out : List ℕ) → k ≡ result_unwrap_or a d → d ≤ length out
      → IfOk a (λ n. n ≡ 4 * step_count P) → out ≡ written (refusal_of a) P w D β steps → k ≡ length (take k out)
  unfolding written
  handed-length (Ok n) d k steps out end room size e =
      let all = layout-length P w D β in
      let part = ap (take k) e ∙ take_at (layout P w D β) (drop (0 + length (layout P w D β)) steps) k (all ∙ sym size ∙ sym end) in
      end ∙ size ∙ sym all ∙ sym (ap length part)
  handed-length (Err r) d k steps out end room size e = sym (length-take-le k out (rw end room))
