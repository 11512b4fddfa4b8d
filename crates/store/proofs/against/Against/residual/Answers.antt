-- `store::against::Against::residual` meets its contract: the local array begins as zeros, its first C + 1 places come back as the sums, and
-- these reduced are the residual (`Deferring`). Assumes nothing.
use mathlib.Core.Path.{◌≡◌, ap, ◌∙◌}
use Prim.Native.Nat.{◌+◌}
use native.Mathlib.Omega.{arith}
use lib.ListN.{length}
use Rattle.lists.proofs.Tabs.{tab-length}
use Rattle.lists.proofs.Parts.{zeros-front}
use Rattle.store.proofs.Fronts.{front-list}
use Rattle.store.proofs.Deferring.{reduced-sums}
use Rattle.store.proofs.against.Against.residual.Goals as goal

pub defer-requires : goal.defer-requires
defer-requires c = zeros-front 1025 (c.args.self.now.c + 1) (omega arith)

pub returns : goal.returns
returns c =
    let count : length c.defer.new.acc ≡ c.args.self.now.c + 1 =
    (ap length c.defer.ensures ∙ tab-length _ _) in
    c.reduce.ensures ∙ reduced-sums _ _ _ _ _ (front-list _ c.defer.new.acc _ count ∙ c.defer.ensures)
