-- `field::residues::wide_reciprocal` meets its contract: 4294967296 / p is below 4294967296, since p is at least 2.
-- Assumes nothing.
use mathlib.Core.Path.{refl}
use Prim.Native.Nat.{◌/◌}
use native.Mathlib.Omega.{arith}
use Rattle.field.proofs.Reduction.{reciprocal-small}
use Rattle.field.proofs.residues.wide_reciprocal.Goals as goal

pub overflow_cast-result-2 : goal.overflow_cast-result-2
overflow_cast-result-2 c = omega (arith, reciprocal-small 4294967296 c.args.p (4294967296 / c.args.p) (omega arith) c.requires.0 refl)
