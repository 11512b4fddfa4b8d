use mathlib.Core.Path.{ap₂, ◌∙◌}
use mathlib.Core.List.{[], ◌∷◌}
use Prim.Native.Nat.{ℕ, ◌<◌}
use native.Mathlib.Nat.{mod-lt}
use native.Mathlib.Omega.{arith}
use lib.ListN.{get_or}
use Rattle.plan.proofs.Bounds.{modulus, prime-low, prime-high}
use Rattle.program.proofs.Interpreting.{StepAt, step-at, small-inverse, running_none, running-clear, running-add, running-boot, running-count, running-all}
use Rattle.program.proofs.running.run_steps.Goals as goal
use Rattle.program.proofs.running.run_steps.Goals.{After-read, in-Clear, in-Add, in-Boot}

-- the step of this turn
step : (c : After-read) → StepAt c.args.plan.now.numbers c.args.steps.now c.loop-kind.kind-index (get_or c.as_chunks.result.0.now c.loop-kind.kind-index [])
step c = step-at _ c.args.plan.now.within c.requires.steps_value c.as_chunks.ensures.front c.as_chunks.ensures.front_len c.loop-kind-test.true

pub inverse-quarter-requires : goal.inverse-quarter-requires
inverse-quarter-requires c = record {
  modulus = modulus c.args.plan.now.within;
  a_lt_p = mod-lt 4 (omega (arith, prime-low c.args.plan.now.within));
}

pub reciprocal-reciprocal-requires : goal.reciprocal-reciprocal-requires
reciprocal-reciprocal-requires c = modulus c.args.plan.now.within

pub loop-kind-init : goal.loop-kind-init
loop-kind-init c = running_none _ _ _ _ _ c.new-registers.ensures c.requires.digits_len.1

pub read-requires : goal.read-requires
read-requires c =
    let s = step-at _ c.args.plan.now.within c.requires.steps_value c.as_chunks.ensures.front c.as_chunks.ensures.front_len c.loop-kind-test.true in
    (s.kind_low, λ e. omega (arith, s.weight e, prime-high c.args.plan.now.within))

pub clear-registers-requires : goal.clear-registers-requires
clear-registers-requires c =
    let s = step (goal.at.clear-registers-requires c).After-read in
    omega (arith, s.to_inside, c.in-Clear.ensures)

pub add-registers-requires : goal.add-registers-requires
add-registers-requires c =
    let s = step (goal.at.add-registers-requires c).After-read in
    let read = c.in-Add.ensures in
    let inv = c.loop-kind.invariant in record {
      inside = (omega (arith, s.to_inside, read), omega (arith, s.from_inside, read));
      modulus = modulus c.args.plan.now.within;
      m_value = (c.reciprocal-reciprocal.ensures, omega (arith, s.weight read.0, read), inv.residues);
    }

pub boot-registers-requires : goal.boot-registers-requires
boot-registers-requires c =
    let s = step (goal.at.boot-registers-requires c).After-read in
    let read = c.in-Boot.ensures in
    let inv = c.loop-kind.invariant in record {
      inside = (omega (arith, s.to_inside, read), omega (arith, s.from_inside, read));
      quarter_value = (c.inverse-quarter.ensures ∙ small-inverse c.args.plan.now.numbers.p, inv.residues);
    }

pub overflow_add-bootstraps : goal.overflow_add-bootstraps
overflow_add-bootstraps c = omega (arith, running-count _ _ _ _ c.loop-kind.invariant)

pub loop-kind-preserved : goal.loop-kind-preserved
loop-kind-preserved c =
    let s = step (goal.at.loop-kind-preserved c).After-read in
    let positive : 0 < c.args.plan.now.numbers.p = omega (arith, prime-low c.args.plan.now.within) in
    elim c.match-read.branch [
      | in-Clear w ↦ rw (w.registers-is, w.bootstraps-is) (running-clear _ _ _ _ c.loop-kind.invariant c.loop-kind.registers.size s positive _ w.in-Clear.ensures w.clear-registers.ensures)
      | in-Add w ↦ rw (w.registers-is, w.bootstraps-is) (running-add _ _ _ _ c.loop-kind.invariant c.loop-kind.registers.size s positive _ w.in-Add.ensures w.add-registers.ensures)
      | in-Boot w ↦ rw (w.registers-is, w.bootstraps-is) (running-boot _ _ _ _ c.loop-kind.invariant c.loop-kind.registers.size s positive _ w.in-Boot.ensures w.boot-registers.ensures c.args.plan.now.lent.tables-residues)
    ]

pub returns : goal.returns
returns c =
    let r = running-all _ _ _ _ c.loop-kind.invariant (omega arith) in
    rw c.variables-y.ensures (ap₂ (λ (y count : ℕ). y ∷ count ∷ []) r.0 r.1)
