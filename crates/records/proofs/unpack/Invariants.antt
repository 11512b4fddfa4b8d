-- `records::unpack` meets its contract: noting the records that are left gives what noting all of them gives. Assumes nothing.
use Rattle.std.proofs.Common.{◌≡◌, ◌-◌, length}
use Rattle.records.specs.Listed.{unpacked}
use Rattle.records.proofs.unpack.Given as goal

abbrev pub invariant-loop-i : goal.invariant-loop-i
invariant-loop-i l = unpacked (length l.records - l.i) l.i l.records l.list ≡ unpacked (length l.records) 0 l.records l.initial.list
