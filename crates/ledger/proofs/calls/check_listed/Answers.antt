-- `ledger::calls::check_listed` meets its contract: causes 6, 16 and 7 in turn. Assumes nothing.
use Rattle.plan.proofs.Bounds.{modulus}
use Rattle.ledger.proofs.calls.check_listed.Goals as goal

pub is_reduced-requires-clause-modulus : goal.is_reduced-requires-clause-modulus
is_reduced-requires-clause-modulus c = modulus c.args.plan.now.within
