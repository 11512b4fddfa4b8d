-- Numbers and lines as bytes (01, "The filing program": "decimal numbers .. zero as `0` and otherwise no leading zero, one space between").
-- Stands on the standard library alone.
--     digits_of most n  the decimal digits of n, at most `most` of them and one more
--     decimal n        the decimal digits of n, which has at most 20 of them
--     spaced ns        the numbers ns with one space between
--     line ns          the same as a line, with its LF
use Rattle.std.specs.Prelude.{cond, List, [], ◌∷◌, ◌++◌, ℕ, zero, suc, ◌+◌, ◌/◌, ◌%◌, ltb}

unfoldable pub digits_of : ℕ → ℕ → List ℕ
digits_of zero n = (48 + n % 10) ∷ []
digits_of (suc most) n =
    let front = digits_of most (n / 10) in
    cond (ltb n 10) ((48 + n) ∷ []) (front ++ ((48 + n % 10) ∷ []))

unfoldable pub decimal : ℕ → List ℕ
decimal n = digits_of 19 n

unfoldable pub spaced : List ℕ → List ℕ
spaced [] = []
spaced (n ∷ ns) = decimal n ++ more ns
  where
    more : List ℕ → List ℕ
    more [] = []
    more (k ∷ ks) = 32 ∷ (decimal k ++ more ks)

unfoldable pub line : List ℕ → List ℕ
line ns = spaced ns ++ (10 ∷ [])
