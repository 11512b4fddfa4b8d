-- `lines::numerals::piece_end` meets its contract. Assumes nothing.
use Rattle.std.proofs.Common.{arith}
use Rattle.lines.proofs.WordLaws.{cut_fits, piece-rest, piece-none}
use Rattle.lines.proofs.numerals.piece_end.Goals as goal

pub overflow_add-result : goal.overflow_add-result
overflow_add-result c =
    let some = c.in-Some in
    record { fits = omega (arith, some.ensures.lookup, c.size_before.ensures, cut_fits c.args.c some.rest.now) }

pub returns-in-Some : goal.returns-in-Some
returns-in-Some c = omega (arith, c.size_before.ensures, piece-rest c.args.c _ _ c.args.at c.in-Some.ensures.lookup.0.2)

pub returns-in-None : goal.returns-in-None
returns-in-None c = piece-none _ _ _ c.in-None.ensures.lookup.0
