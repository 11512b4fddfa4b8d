-- `cases::held::set_part` is safe: the part and the numbers that are left are together as many as all numbers, so there is room for one more.
use Rattle.std.proofs.Common.{◌≡◌, ◌+◌, length}
use Rattle.arrayvec.specs.ArrayVec.{array_vec_len}
use Rattle.cases.proofs.held.set_part.Given as goal

abbrev pub invariant-loop-number : goal.invariant-loop-number
invariant-loop-number g l = goal.F-IsAlwaysCallable g l.cut × (array_vec_len l.part + length l.number-items ≡ length l.numbers + l.number-index)
