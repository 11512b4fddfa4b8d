use mathlib.Core.Path.{◌≡◌, sym, ap, ap₂, ◌∙◌}
use Prim.Native.Nat.{ℕ, ◌+◌, ◌*◌, ◌/◌, ◌%◌, ◌^◌, ◌<◌}
use native.Mathlib.Nat.{one-mul, mul-one, pow-zero, mod-lt, mod-eq_of_lt}
use native.Mathlib.Omega.{arith}
use Rattle.field.specs.Residues as specs
use Rattle.field.proofs.Powers.{square-turn}
use Rattle.field.proofs.residues.inverse.Goals as goal

pub loop-e-init : goal.loop-e-init
loop-e-init c = (omega arith, omega arith, ap (λ (n : ℕ). n % c.args.p) (one-mul _))

pub cell-power-requires : goal.cell-power-requires
cell-power-requires c =
    let pre = c.requires in
    let reciprocal = c.reciprocal-m in record {
      modulus = pre.modulus;
      m_value = reciprocal.ensures;
      x_lt_p = (omega arith, c.loop-e.invariant.0, omega arith);
    }

pub cell-base-requires : goal.cell-base-requires
cell-base-requires c =
    let pre = c.requires in
    let reciprocal = c.reciprocal-m in
    let loop = c.loop-e in record {
      modulus = pre.modulus;
      m_value = reciprocal.ensures;
      x_lt_p = (omega arith, loop.invariant.1, omega arith);
    }

pub loop-e-preserved : goal.loop-e-preserved
loop-e-preserved c =
    let args = c.args in
    let loop = c.loop-e in
    let p = args.p in
    let pos : 0 < p = omega arith in
    let turn : (c.cell-power.result * c.cell-base.result ^ (loop.e / 2)) % p ≡ (loop.power * loop.base ^ loop.e) % p
    = ap₂ (λ (x y : ℕ). (x * y ^ (loop.e / 2)) % p)
    (c.cell-power.ensures ∙ ap (λ (g : ℕ). (0 + g * loop.power) % p) c.odd_factor.ensures.0)
    c.cell-base.ensures
    ∙ square-turn p loop.power loop.base loop.e in
    (rw c.cell-power.ensures (mod-lt _ pos), rw c.cell-base.ensures (mod-lt _ pos), turn ∙ loop.invariant.2)

pub returns : goal.returns
unfolding specs.inverse
returns c =
    let args = c.args in
    let e : c.loop-e.e ≡ 0 = omega arith in
    sym (mod-eq_of_lt c.loop-e.invariant.0)
    ∙ ap (λ (n : ℕ). n % args.p) (sym (mul-one _) ∙ ap (λ (n : ℕ). c.loop-e.power * n) (sym (pow-zero c.loop-e.base) ∙ ap (λ (n : ℕ). c.loop-e.base ^ n) (sym e)))
    ∙ c.loop-e.invariant.2
