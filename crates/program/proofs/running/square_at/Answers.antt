-- `program::running::square_at` meets its contract: three bytes' product fits. Assumes nothing.
use mathlib.Core.Path.{ap}
use Prim.Native.Nat.{ℕ, ◌*◌, ◌%◌}
use Rattle.field.specs.Residues.{square}
use Rattle.program.proofs.running.square_at.Goals as goal

pub returns : goal.returns
unfolding square
returns c = ap (λ (q : ℕ). c.args.z * c.args.z * q % c.args.p) c.requires.z_lt_p.1
