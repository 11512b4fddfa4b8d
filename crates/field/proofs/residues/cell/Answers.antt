-- `field::residues::cell` meets its contract: v is below 65536, so q is v / p or one less (`Reduction`), and the two returns are the
-- two sides of the conditional subtraction. Assumes nothing.
use mathlib.Core.Path.{refl}
use Prim.Native.Nat.{ℕ, ◌+◌, ◌*◌, ◌/◌, ◌≤◌, ◌<◌}
use native.Mathlib.Nat.{mul-le-mul}
use native.Mathlib.Omega.{arith}
use Rattle.field.proofs.Reduction.{quotient-low, quotient-high, below, above, reciprocal-small}
use Rattle.field.proofs.residues.cell.Goals as goal

v : goal.Start → ℕ
v c = c.args.x + c.args.g * c.args.y

q : goal.Start → ℕ
q c = (c.args.x + c.args.g * c.args.y) * c.args.m / 65536

product_small : (c : goal.Start) → c.args.g * c.args.y ≤ 251 * 250
product_small c =
    let hg : c.args.g ≤ 251 = omega arith in
    let hy : c.args.y ≤ 250 = omega arith in
    mul-le-mul hg hy

positive : (c : goal.Start) → 0 < c.args.p
positive c = omega arith

small : (c : goal.Start) → v c < 65536
unfolding v
small c = omega (arith, product_small c)

low : (c : goal.Start) → q c * c.args.p ≤ v c
unfolding v q
low c = quotient-low 65536 c.args.p (v c) c.args.m (q c) (positive c) (small c) c.requires.m_value refl

high : (c : goal.Start) → v c < q c * c.args.p + (c.args.p + c.args.p)
unfolding v q
high c = quotient-high 65536 c.args.p (v c) c.args.m (q c) (positive c) (small c) c.requires.m_value refl

scaled_small : (c : goal.Start) → v c * c.args.m ≤ 65535 * 65535
scaled_small c =
    let hv : v c ≤ 65535 = omega (arith, small c) in
    let hm : c.args.m ≤ 65535 = omega (arith, reciprocal-small 65536 c.args.p c.args.m (omega arith) c.requires.modulus.0 c.requires.m_value) in
    mul-le-mul hv hm

pub overflow_mul-v : goal.overflow_mul-v
overflow_mul-v c = omega (arith, product_small c)

pub overflow_add-v : goal.overflow_add-v
overflow_add-v c = omega (arith, product_small c)

pub overflow_cast-q : goal.overflow_cast-q
overflow_cast-q c = omega (arith, product_small c)

pub overflow_mul-q : goal.overflow_mul-q
unfolding v
overflow_mul-q c = omega (arith, scaled_small c)

pub overflow_cast-q-3 : goal.overflow_cast-q-3
unfolding v
overflow_cast-q-3 c = omega (arith, scaled_small c)

pub overflow_mul-r : goal.overflow_mul-r
unfolding v q
overflow_mul-r c = omega (arith, low c, product_small c)

pub overflow_sub-r : goal.overflow_sub-r
unfolding v q
overflow_sub-r c = low c

pub returns-then-r-p : goal.returns-then-r-p
unfolding v q
returns-then-r-p c =
    let s = c.before in
    below 65536 s.args.p (v s) s.args.m (q s) (positive s) (small s) s.requires.m_value refl c.if-r-p.true

pub overflow_cast-result-3 : goal.overflow_cast-result-3
unfolding v q
overflow_cast-result-3 c = omega (arith, high c.before)

pub returns : goal.returns
unfolding v q
returns c =
    let s = c.before in
    above 65536 s.args.p (v s) s.args.m (q s) (positive s) (small s) s.requires.m_value refl c.if-r-p.false
