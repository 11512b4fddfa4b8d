-- `field::residues::odd_factor` meets its contract: e % 2 is 1 or 0, and b to that power is b or 1. Assumes nothing.
use mathlib.Core.Path.{◌≡◌, sym}
use Prim.Native.Nat.{◌%◌}
use native.Mathlib.Nat.{pow-zero}
use native.Mathlib.Omega.{arith}
use Rattle.field.proofs.Powers.{pow-one}
use Rattle.field.proofs.residues.odd_factor.Goals as goal

pub returns-then-e-eq1 : goal.returns-then-e-eq1
returns-then-e-eq1 c = (rw c.if-e-eq1.true (sym (pow-one c.args.b)), omega arith)

pub returns : goal.returns
returns c =
    let e : c.args.e % 2 ≡ 0 = omega arith in
    (rw e (sym (pow-zero c.args.b)), omega arith)
