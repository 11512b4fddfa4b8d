-- 01, "The filing program": lines and the numbers on them. How many digits a number may have is a parameter: 5 in a text.
--     cut_at c bytes        the bytes cut at every c: n cuts make n + 1 pieces; `onto`: a byte put in front of the first piece
--     is_digit x, all_digits word    a byte is a decimal digit, and all of a word's are, as tests
--     is_numeral most word  "decimal numbers of 1 to 5 digits, zero as `0` and otherwise no leading zero", as a test, with `most` for 5
--     number word           the number that the digits of a word write; `number_from n word`: after digits that write n
--     all_numerals most words  each word is such a number, as a test
--     asks most n bytes     a line of n such numbers, one space between, of at most 1,024 bytes with its LF, as a test
--     numbers bytes         the numbers of a line
use Rattle.std.specs.Prelude.{Bool, true, cond, not, ◌&&◌, ◌||◌, List, [], ◌∷◌, map, ℕ, ◌+◌, ◌-◌, ◌*◌, eqb, leb, ltb, length}
use Rattle.lists.specs.Places.{at}

-- a byte put in front of the first piece
abbrev pub onto : ℕ → List (List ℕ) → List (List ℕ)
onto x [] = (x ∷ []) ∷ []
onto x (piece ∷ pieces) = (x ∷ piece) ∷ pieces

unfoldable pub cut_at : ℕ → List ℕ → List (List ℕ)
cut_at c [] = [] ∷ []
cut_at c (x ∷ xs) = cond (eqb x c) ([] ∷ cut_at c xs) (onto x (cut_at c xs))

abbrev pub is_digit : ℕ → Bool
is_digit x = leb 48 x && leb x 57

unfoldable pub all_digits : List ℕ → Bool
all_digits [] = true
all_digits (x ∷ xs) = is_digit x && all_digits xs

unfoldable pub is_numeral : ℕ → List ℕ → Bool
is_numeral most word =
    (leb 1 (length word) && leb (length word) most) && (all_digits word && (eqb (length word) 1 || not (eqb (at word 0) 48)))

-- the value of digits after some that write n
unfoldable pub number_from : ℕ → List ℕ → ℕ
number_from n [] = n
number_from n (x ∷ xs) = number_from (10 * n + (x - 48)) xs

abbrev pub number : List ℕ → ℕ
number word = number_from 0 word

unfoldable pub all_numerals : ℕ → List (List ℕ) → Bool
all_numerals most [] = true
all_numerals most (word ∷ words) = is_numeral most word && all_numerals most words

unfoldable pub asks : ℕ → ℕ → List ℕ → Bool
asks most n bytes = ltb (length bytes) 1024 && (all_numerals most (cut_at 32 bytes) && eqb (length (cut_at 32 bytes)) n)

unfoldable pub numbers : List ℕ → List ℕ
numbers bytes = map number (cut_at 32 bytes)
