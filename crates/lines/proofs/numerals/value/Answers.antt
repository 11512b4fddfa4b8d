use Rattle.std.proofs.Common.{arith, refl, sym, ◌∙◌}
use Rattle.lines.proofs.DigitLaws.{digits-next, number_step, number-end, small-step, small}
use Rattle.lines.proofs.numerals.value.Goals as goal

pub loop-b-init : goal.loop-b-init
loop-b-init c = (refl, c.requires.word_value, omega arith)

pub overflow_mul-v : goal.overflow_mul-v
overflow_mul-v c = record { fits = omega (arith, small _ _ c.loop-b.invariant.2 (omega arith)) }

pub overflow_sub-b : goal.overflow_sub-b
overflow_sub-b c = (digits-next _ _ c.loop-b-test.true c.loop-b.invariant.1).0.0

pub overflow_add-v : goal.overflow_add-v
overflow_add-v c =
    let digit = digits-next _ _ c.loop-b-test.true c.loop-b.invariant.1 in
    record { fits = omega (arith, digit.0, c.from.ensures, small _ _ c.loop-b.invariant.2 (omega arith)) }

pub loop-b-preserved : goal.loop-b-preserved
loop-b-preserved c =
    let loop = c.loop-b in
    let digit = digits-next _ _ c.loop-b-test.true loop.invariant.1 in
    rw c.from.ensures (
      loop.invariant.0 ∙ number_step loop.v _ _ c.loop-b-test.true,
      digit.1,
      small-step _ _ _ loop.invariant.2 (omega (arith, digit.0)),
    )

pub returns : goal.returns
returns c = sym (c.loop-b.invariant.0 ∙ number-end _ _ _ c.loop-b-test.false)
