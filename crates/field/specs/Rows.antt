-- Operations on rows of residues, each place by its formula. They are what rows of a plan (01, "The plan") and stores ("The store") are made
-- with. Stands on the lists by place of `lists`.
--     dot ws xs n              the first n places of ws, each times its place of xs, summed
--     plus_multiple p g xs ys  xs plus g times ys, place by place, modulo p
--     multiple p g ys          g times ys, place by place, modulo p
--     plus_times g xs ys       xs plus g times ys, place by place, not reduced
--     remainders p xs          xs modulo p, place by place
--     Headroom k xs            each place of xs has room for k more in 32 bits
--     all_below p xs           each place of xs is below p, as a test
--     maxima xs ys             the larger of xs and ys, place by place
--     plus_nothing             0 times a number adds nothing: a law of the numbers that products are summed in
use Rattle.std.specs.Prelude.{◌≡◌, Bool, List, ℕ, ◌+◌, ◌*◌, ◌%◌, ◌<◌, max, ltb, length}
use Rattle.std.proofs.Common.{◌∙◌, ap, zero-mul, add-zero}
use Rattle.lists.specs.Places.{sum, tab, every, at}

abbrev pub dot : List ℕ → List ℕ → ℕ → ℕ
dot ws xs n = sum (λ j. at ws j * at xs j) n

abbrev pub plus_multiple : ℕ → ℕ → List ℕ → List ℕ → List ℕ
plus_multiple p g xs ys = tab (length xs) (λ j. (at xs j + g * at ys j) % p)

abbrev pub multiple : ℕ → ℕ → List ℕ → List ℕ
multiple p g ys = tab (length ys) (λ j. (g * at ys j) % p)

abbrev pub plus_times : ℕ → List ℕ → List ℕ → List ℕ
plus_times g xs ys = tab (length xs) (λ j. at xs j + g * at ys j)

abbrev pub remainders : ℕ → List ℕ → List ℕ
remainders p xs = tab (length xs) (λ j. at xs j % p)

abbrev pub Headroom : ℕ → List ℕ → Type 0
Headroom k xs = (j : ℕ) → at xs j + k < 4294967296

abbrev pub all_below : ℕ → List ℕ → Bool
all_below p xs = every (λ j. ltb (at xs j) p) (length xs)

abbrev pub maxima : List ℕ → List ℕ → List ℕ
maxima xs ys = tab (length xs) (λ j. max (at xs j) (at ys j))

pub plus_nothing : (x y : ℕ) → x + 0 * y ≡ x
plus_nothing x y = ap (λ (n : ℕ). x + n) (zero-mul y) ∙ add-zero x
