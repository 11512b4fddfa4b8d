use mathlib.Core.Path.{◌≡◌, sym, ap, ap₂, ◌∙◌}
use mathlib.Core.List.{List}
use Prim.Native.Nat.{ℕ, ◌+◌, ◌-◌, ◌*◌, ◌≤◌}
use native.Mathlib.Nat.{mul-le-mul_right}
use native.Mathlib.Omega.{arith}
use lib.ListN.{length, take, drop}
use Rattle.lists.specs.Places.{tab, placed}
use Rattle.lists.proofs.Parts.{cut-length}
use Rattle.field.specs.Rows.{all_below}
use Rattle.plan.specs.declared.numbers.Plan.{Plan}
use Rattle.plan.specs.Numbers.{variables, columns}
use Rattle.program.specs.Steps.{by_of}
use Rattle.readback.specs.Recovery.{coefficient_step}
use Rattle.readback.proofs.Recovering.{part-back, row_of, row_read, row_room, rows_none, rows_next, rows-refuted, rows_all}
use Rattle.readback.proofs.recovery.recover.Goals as goal

-- row b lies within the list
room : (P : Plan) (found : List ℕ) (b l : ℕ) → b ≤ P.t → l ≡ variables P → length found ≡ columns P → b * l + l ≤ length found
room P found b l h e size = rw e (omega (arith, size, mul-le-mul_right (variables P) h))

-- the row that is asked for
asked : (P : Plan) (steps found : List ℕ) (b l begin : ℕ) → b ≤ P.t → l ≡ variables P → length found ≡ columns P → begin ≡ coefficient_step P b 0
    → tab (length (take (b * l + l - b * l) (drop (b * l) found))) (λ j. by_of steps (begin + j)) ≡ row_of P steps b
asked P steps found b l begin h e size place =
    row_read P steps begin _ b (cut-length found (b * l) l (room P found b l h e size) ∙ e) place

pub loop-b-init : goal.loop-b-init
loop-b-init c = rows_none c.args.plan c.args.steps.now c.args.found.now c.requires.found_len

pub recover_row-requires : goal.recover_row-requires
recover_row-requires c =
    let P = c.args.plan in
    let b = c.loop-b.b in
    let row : b ≤ P.t = omega (arith, c.loop-b-test.true) in
    let part = cut-length c.loop-b.found (b * c.variables-l.result) c.variables-l.result (room P c.loop-b.found b c.variables-l.result row c.variables-l.ensures c.loop-b.invariant.size) in
    omega (arith, part, c.variables-l.ensures, c.coefficient_step-begin.ensures, row_room P b row, c.requires.steps_len)

pub returns-then-not-recover_row-clause-value : goal.returns-then-not-recover_row-clause-value
returns-then-not-recover_row-clause-value c =
    let P = c.args.plan in
    let b = c.loop-b.b in
    let row : b ≤ P.t = omega (arith, c.loop-b-test.true) in
    let is_row = asked P c.args.steps.now c.loop-b.found b c.variables-l.result c.coefficient_step-begin.result row c.variables-l.ensures c.loop-b.invariant.size c.coefficient_step-begin.ensures in
    let read = c.recover_row.ensures.value ∙ ap (all_below P.p) is_row in
    sym (rows-refuted P c.args.steps.now b row (sym read ∙ c.if-not-recover_row.true))

pub loop-b-preserved : goal.loop-b-preserved
loop-b-preserved c =
    let P = c.args.plan in
    let b = c.loop-b.b in
    let l = c.variables-l.result in
    let found = c.loop-b.found in
    let inv = c.loop-b.invariant in
    let row : b ≤ P.t = omega (arith, c.loop-b-test.true) in
    let is_row = asked P c.args.steps.now found b l c.coefficient_step-begin.result row c.variables-l.ensures inv.size c.coefficient_step-begin.ensures in
    let yes = c.if-not-recover_row.false in
    let back = part-back found c.recover_row.new.row (b * l) l (room P found b l row c.variables-l.ensures inv.size) c.recover_row.auto.row in
    let place : b * l ≡ b * variables P = ap (λ (n : ℕ). b * n) c.variables-l.ensures in
    rows_next P c.args.steps.now inv _ row (ap length back.0 ∙ back.1 ∙ inv.size)
    (back.0 ∙ ap₂ (placed found) place (c.recover_row.ensures.row_after yes ∙ is_row))
    (sym (c.recover_row.ensures.value ∙ ap (all_below P.p) is_row) ∙ yes)

pub returns : goal.returns
returns c =
    let all = rows_all c.args.plan c.args.steps.now c.loop-b.invariant (omega (arith, c.loop-b.auto, c.loop-b-test.false)) in
    record { value = sym all.0; found_after = λ _. all.1 }
