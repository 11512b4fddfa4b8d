-- `store::against::Against::defer` meets its contract: the local array begins as zeros. Assumes nothing.
use Prim.Native.Nat.{◌+◌}
use native.Mathlib.Omega.{arith}
use Rattle.lists.proofs.Parts.{zeros-front}
use Rattle.store.proofs.against.Against.defer.Goals as goal

pub defer_short-requires : goal.defer_short-requires
defer_short-requires c =
    record {
      acc_value = c.requires;
      short_value = zeros-front 1025 (c.args.self.now.c + 1) (omega arith);
    }
