-- `lines::numerals::number_at` meets its contract. Assumes nothing.
use Rattle.std.proofs.Common.{arith, ◌∙◌, sym, ap}
use Rattle.lines.specs.Lines.{is_numeral}
use Rattle.lines.proofs.WordLaws.{piece-part}
use Rattle.lines.proofs.DigitLaws.{numeral-parts}
use Rattle.lines.proofs.NumeralLaws.{none-there, inside, none-empty, one-there}
use Rattle.lines.proofs.numerals.number_at.Goals as goal

pub returns-then-end-at : goal.returns-then-end-at
returns-then-end-at c = none-empty _ _ _ _ c.piece_end-end.ensures c.if-end-at.true

pub slice_bounds-word-end : goal.slice_bounds-word-end
slice_bounds-word-end c = inside c.args.most _ _ _ c.piece_end-end.ensures c.if-end-at.false

pub returns-then-not-is_numeral : goal.returns-then-not-is_numeral
returns-then-not-is_numeral c =
    let word = piece-part 32 _ _ _ c.piece_end-end.ensures in
    none-there _ _ _ (ap (is_numeral c.args.most) (sym word) ∙ sym c.if-not-is_numeral.ensures)

pub value-requires : goal.value-requires
value-requires c =
    let parts = numeral-parts _ _ (sym c.if-not-is_numeral.ensures) in
    record { word_len_bound = omega (arith, parts.0, c.requires); word_value = parts.1 }

pub returns : goal.returns
returns c =
    let end = c.piece_end-end.ensures in
    let word = piece-part 32 _ _ _ end in
    rw (c.value.ensures, word, end) (one-there _ _ _ (ap (is_numeral c.args.most) (sym word) ∙ sym c.if-not-is_numeral.ensures))
