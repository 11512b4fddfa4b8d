use Rattle.std.specs.Prelude.{◌≡◌, ℕ, ◌+◌, ◌*◌}
use mathlib.Core.Path.{ap, subst}
use native.Mathlib.Nat.{le_refl}
use native.Mathlib.Omega.{arith}
use Rattle.lists.proofs.Overwrite.{Written, written_none, written_all}
use Rattle.plan.specs.Numbers.{columns}
use Rattle.plan.specs.Rows.{row_place}
use Rattle.plan.proofs.Bounds.{modulus}
use Rattle.plan.proofs.Blocks.{block-turn, last_turn}
use Rattle.plan.proofs.rows.fill_blocks.Goals as goal

pub loop-b-init : goal.loop-b-init
loop-b-init c =
    let none : 0 * c.variables-l.result ≡ 0 = omega arith in
    rw none (written_none _ _ _ c.requires.row_len)

pub dot-g-requires-clause-modulus : goal.dot-g-requires-clause-modulus
dot-g-requires-clause-modulus c = modulus c.args.plan.now.within

pub set_multiple-requires-clause-modulus : goal.set_multiple-requires-clause-modulus
set_multiple-requires-clause-modulus c = modulus c.args.plan.now.within

pub loop-b-preserved : goal.loop-b-preserved
loop-b-preserved c =
    let plan = c.args.plan.now in
    let b = c.loop-b.b in
    let l = c.variables-l.result in
    let next : (b + 1) * l ≡ b * l + l = omega arith in
    rw next (block-turn plan.numbers plan.products.now c.args.x.now l b c.dot-g.result c.loop-b.invariant
    (ap (λ (k : ℕ). b * k) c.variables-l.ensures) c.variables-l.ensures c.loop-b-test.true c.requires.x_len.0 plan.lent.products-length c.dot-g.ensures
    c.set_multiple.ensures)

pub set_multiple-requires-2-clause-modulus : goal.set_multiple-requires-2-clause-modulus
set_multiple-requires-2-clause-modulus c = modulus c.args.plan.now.within

pub returns : goal.returns
returns c =
    let plan = c.args.plan.now in
    let l = c.variables-l.result in
    let last : c.loop-b.b ≡ plan.numbers.t = omega arith in
    let written = subst (λ (k : ℕ). Written (columns plan.numbers) (row_place plan.numbers plan.products.now c.args.x.now) c.args.row.now (k * l) c.loop-b.row)
    last c.loop-b.invariant in
    written_all (last_turn plan.numbers plan.products.now c.args.x.now l written (ap (λ (k : ℕ). plan.numbers.t * k) c.variables-l.ensures)
    c.variables-l.ensures c.requires.x_len.0 c.requires.x_len.1 c.set_multiple-2.ensures) (le_refl _)
