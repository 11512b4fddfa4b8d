-- `listing::printing::print_listing` meets its contract: what is written one after the other is the listing (`Puts`, `Rooms`).
-- Assumes nothing.
use mathlib.Core.Path.{◌≡◌, sym, ◌∙◌}
use mathlib.Core.List.{List, ◌++◌}
use Prim.Native.Nat.{ℕ, ◌+◌, ◌/◌, ◌≤◌}
use native.Mathlib.Omega.{arith}
use lib.ListN.{length}
use Rattle.lists.specs.Places.{joined, placed}
use Rattle.plan.specs.declared.numbers.Plan.{Plan}
use Rattle.plan.specs.Numbers.{Within}
use Rattle.program.specs.Layout.{layout}
use Rattle.listing.specs.Decimal.{line}
use Rattle.listing.specs.Printed.{figure_names, step_names, step_line}
use Rattle.listing.proofs.Puts.{Left, put_as, left-none, left-next}
use Rattle.listing.proofs.Lines.{line-most, lines-room}
use Rattle.program.proofs.Shape.{step-limit}
use Rattle.listing.proofs.Rooms.{small-steps, step_count-length, listing-as}
use Rattle.listing.proofs.printing.print_listing.Goals as goal

-- the first two parts, the third, and the room behind them
two : (e numbers : List ℕ) {out1 out2 : List ℕ} {k1 k2 : ℕ} → 131072 ≤ length e → length numbers ≡ 3 → out1 ≡ placed e 0 figure_names
    → k1 ≡ length figure_names → out2 ≡ placed out1 k1 (line numbers) → k2 ≡ k1 + length (line numbers) → Left 130986 e 0 (figure_names ++ line numbers) out2 k2
two e numbers room three a1 n1 a2 n2 =
    left-next 63 130986 (line numbers) (left-next 23 131049 figure_names (left-none 131072 e 0 room) (omega arith) (omega arith) a1 n1)
    (omega (arith, line-most numbers (omega arith))) (omega arith) a2 n2

third : {e xs out out3 : List ℕ} {k k3 : ℕ} → Left 130986 e 0 xs out k → out3 ≡ placed out k step_names → k3 ≡ k + length step_names
    → Left 130970 e 0 (xs ++ step_names) out3 k3
third l a n = left-next 16 130970 step_names l (omega arith) (omega arith) a n

few : (P : Plan) (w d β steps : List ℕ) → Within P → steps ≡ layout P w d β → length steps / 4 ≤ 4307
few P w d β steps within e = rw (step_count-length P w d β steps e) (step-limit P within)

pub bytes-requires-2 : goal.bytes-requires-2
bytes-requires-2 c =
    let head = two c.args.out.now _ c.requires.in_bounds (omega arith) c.bytes.ensures.list c.bytes.ensures.ends c.line.ensures.list c.line.ensures.ends in
    omega (arith, head.left)

pub steps-requires : goal.steps-requires
steps-requires c =
    let s = c.args in
    let pre = c.requires in
    let head = two s.out.now _ pre.in_bounds (omega arith) c.bytes.ensures.list c.bytes.ensures.ends c.line.ensures.list c.line.ensures.ends in
    let names = third head c.bytes-2.ensures.list c.bytes-2.ensures.ends in record {
      by_index = small-steps s.plan s.weights.now s.d.now s.beta.now s.steps.now pre.within pre.weights_len.1 pre.d_len.1 pre.beta_len.1 pre.steps_value;
      steps_in_bounds = omega (arith, names.left, few s.plan s.weights.now s.d.now s.beta.now s.steps.now pre.within pre.steps_value);
    }

pub returns : goal.returns
returns c =
    let s = c.args in
    let pre = c.requires in
    let steps = s.steps.now in
    let count = length steps / 4 in
    let small = small-steps s.plan s.weights.now s.d.now s.beta.now steps pre.within pre.weights_len.1 pre.d_len.1 pre.beta_len.1 pre.steps_value in
    let head = two s.out.now _ pre.in_bounds (omega arith) c.bytes.ensures.list c.bytes.ensures.ends c.line.ensures.list c.line.ensures.ends in
    let names = third head c.bytes-2.ensures.list c.bytes-2.ensures.ends in
    let room : length (joined (step_line steps) count) ≤ 80000 = omega (arith, lines-room steps small count, few s.plan s.weights.now s.d.now s.beta.now steps pre.within pre.steps_value) in
    let l = left-next 80000 0 (joined (step_line steps) count) names room (omega arith) c.steps.ensures.list c.steps.ensures.ends in
    let counted = step_count-length s.plan s.weights.now s.d.now s.beta.now steps pre.steps_value in
    let whole = put_as (listing-as s.plan s.weights.now s.d.now s.beta.now steps _ _ pre.steps_value counted c.worst-norm.ensures) l.put in
    let reference = c.steps.ensures.reference ∙ c.bytes-2.ensures.reference ∙ c.line.ensures.reference ∙ c.bytes.ensures.reference in
    record { out_after = grind (arith, sym reference, whole.list); value = omega (arith, whole.ends) }
