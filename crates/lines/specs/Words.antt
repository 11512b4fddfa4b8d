-- Serves 01, "The filing program": "a cursor over the lent line reads them one by one". The words of a line from a place on, the number that
-- stands there, and where a cursor stands once it has read it. The contracts of the code cite them; what a line is does not need them.
--     piece c bytes i      the piece that begins at place i: the bytes up to the next c, or to the end (`front`, the first piece)
--     pieces_from c bytes i    the pieces from place i on; none where i is past the end
--     word bytes i, words_from bytes i     the same, cut at spaces
--     numeral_at most bytes i  the number that stands at place i, with the place where the next word begins; none where the word is malformed
--     value_at most bytes i    its value alone
--     advanced most cursor     the cursor at that place, over the same line; the same cursor where the word is malformed
use Rattle.std.specs.Prelude.{cond, Option, None, Some, option_map, List, [], ◌∷◌, ℕ, ◌+◌, leb, length, drop}
use Rattle.lines.specs.Lines.{cut_at, is_numeral, number}
use Rattle.lines.specs.declared.cursor.Cursor.{Cursor}
use Rattle.lines.specs.declared.numerals.Numeral.{Numeral}

abbrev pub front : List (List ℕ) → List ℕ
front [] = []
front (one ∷ pieces) = one

unfoldable pub piece : ℕ → List ℕ → ℕ → List ℕ
piece c bytes i = front (cut_at c (drop i bytes))

unfoldable pub pieces_from : ℕ → List ℕ → ℕ → List (List ℕ)
pieces_from c bytes i = cond (leb i (length bytes)) (cut_at c (drop i bytes)) []

abbrev pub word : List ℕ → ℕ → List ℕ
word = piece 32

abbrev pub words_from : List ℕ → ℕ → List (List ℕ)
words_from = pieces_from 32

unfoldable pub numeral_at : ℕ → List ℕ → ℕ → Option Numeral
numeral_at most bytes i =
    cond (is_numeral most (word bytes i)) (Some (record { value = number (word bytes i); next = i + length (word bytes i) + 1 })) None

abbrev pub value_at : ℕ → List ℕ → ℕ → Option ℕ
value_at most bytes i = option_map (λ (n : Numeral). n.value) (numeral_at most bytes i)

abbrev pub next_place : Option Numeral → ℕ → ℕ
next_place None at = at
next_place (Some numeral) at = numeral.next

abbrev pub advanced : ℕ → Cursor → Cursor
advanced most cursor = record { line = cursor.line; at = next_place (numeral_at most cursor.line.now cursor.at) cursor.at }
