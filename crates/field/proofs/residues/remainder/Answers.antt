-- `field::residues::remainder` meets its contract: q is v / p or one less (`Reduction`), and the two returns are the two sides of the
-- conditional subtraction. Assumes nothing.
use mathlib.Core.Path.{refl}
use Prim.Native.Nat.{ℕ, ◌+◌, ◌*◌, ◌/◌, ◌≤◌, ◌<◌}
use native.Mathlib.Nat.{mul-le-mul}
use native.Mathlib.Omega.{arith}
use Rattle.field.proofs.Reduction.{quotient-low, quotient-high, below, above}
use Rattle.field.proofs.residues.remainder.Goals as goal

q : goal.Start → ℕ
q c = c.args.v * c.args.m / 4294967296

positive : (c : goal.Start) → 0 < c.args.p
positive c = omega arith

small : (c : goal.Start) → c.args.v < 4294967296
small c = omega arith

low : (c : goal.Start) → q c * c.args.p ≤ c.args.v
unfolding q
low c = quotient-low 4294967296 c.args.p c.args.v c.args.m (q c) (positive c) (small c) c.requires.m_value refl

high : (c : goal.Start) → c.args.v < q c * c.args.p + (c.args.p + c.args.p)
unfolding q
high c = quotient-high 4294967296 c.args.p c.args.v c.args.m (q c) (positive c) (small c) c.requires.m_value refl

scaled_small : (c : goal.Start) → c.args.v * c.args.m ≤ 4294967295 * 4294967295
scaled_small c =
    let hv : c.args.v ≤ 4294967295 = omega arith in
    let hm : c.args.m ≤ 4294967295 = omega arith in
    mul-le-mul hv hm

pub overflow_mul-q : goal.overflow_mul-q
overflow_mul-q c = omega (arith, scaled_small c)

pub overflow_cast-q-3 : goal.overflow_cast-q-3
overflow_cast-q-3 c = omega (arith, scaled_small c)

pub overflow_mul-r : goal.overflow_mul-r
unfolding q
overflow_mul-r c = omega (arith, low c)

pub overflow_sub-r : goal.overflow_sub-r
unfolding q
overflow_sub-r c = low c

pub returns-then-r-p : goal.returns-then-r-p
unfolding q
returns-then-r-p c =
    let s = c.before in
    below 4294967296 s.args.p s.args.v s.args.m (q s) (positive s) (small s) s.requires.m_value refl c.if-r-p.true

pub overflow_cast-result-3 : goal.overflow_cast-result-3
unfolding q
overflow_cast-result-3 c = omega (arith, high c.before)

pub returns : goal.returns
unfolding q
returns c =
    let s = c.before in
    above 4294967296 s.args.p s.args.v s.args.m (q s) (positive s) (small s) s.requires.m_value refl c.if-r-p.false
