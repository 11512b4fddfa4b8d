-- `field::primes::is_odd_prime` meets its contract: the search finds p exactly where p stands in the table, and no p above 251 is one (`PrimeTable`).
-- Assumes nothing.
use borrow.Author.Tests.{lt-leb}
use Rattle.std.proofs.Common.{◌∙◌, sym}
use Rattle.field.proofs.PrimeTable.{primes, member_is, odd_prime-above}
use Rattle.field.proofs.primes.is_odd_prime.Goals as goal

pub returns-then-p-le251 : goal.returns-then-p-le251
unfolding primes
returns-then-p-le251 c = c.contains.ensures.value ∙ member_is c.args.p

pub returns-else-p-le251 : goal.returns-else-p-le251
returns-else-p-le251 c = lt-leb c.args.p 251 c.if-p-le251.false ∙ sym (odd_prime-above c.args.p c.if-p-le251.false)
