-- 01, "The plan", and 02, C-11: the numbers p, s, n, m, t and the radices R of the digits, their limits, and causes 1 to 3. Stands on
-- `Causes`, and on `field` for the odd primes.
--     variables P                L = n + m
--     columns P                  C, which is t + 1 times L
--     product R                  the number of entries: "the product of the radices takes the place of s^n"
--     bad_radix p r              "below 2 or above p", as a test: of s, which bounds table values, and of a radix
--     radices_fit p R            each radix as lent is 2 to p, as a test
--     out_of_range n m t         cause 3, "n, L, t, C .. out of range", as a test
--     number_causes p s n m t R  causes 1 to 3: "cause 2 also covers a bad radix, cause 3 the product, both as lent"
--     radix_causes p R           those of the radices by themselves, as a text tests them
--     plan p s n m t             the plan of these numbers
--     numbers_of P               the plan's five numbers
--     answer_of a                01's number and values for what the constructor answers: the plan's numbers, or the refusal's
--     checked p s n m t R        what the constructor answers
--     Within P                   the plan's numbers meet none of causes 1 to 3, limit by limit
--     Radices P R                the plan's radices: n of them, which meet neither of causes 2 and 3
use Rattle.std.specs.Prelude.{◌≡◌, Bool, true, not, ◌||◌, List, [], ◌∷◌, ℕ, ◌+◌, ◌*◌, ◌≤◌, ltb, length, Result}
use Rattle.lists.specs.Places.{every, at}
use Rattle.field.specs.Primes.{odd_prime}
use Rattle.plan.specs.Causes.{first, Answer, answer, answer_with}
use Rattle.plan.specs.declared.numbers.Plan.{Plan}
use Rattle.plan.specs.declared.refusal.Refusal.{Refusal}

abbrev pub variables : Plan → ℕ
variables P = P.n + P.m

abbrev pub columns : Plan → ℕ
columns P = (P.t + 1) * (P.n + P.m)

unfoldable pub product : List ℕ → ℕ
product [] = 1
product (r ∷ rs) = r * product rs

unfoldable pub bad_radix : ℕ → ℕ → Bool
bad_radix p r = ltb r 2 || ltb p r

unfoldable pub radices_fit : ℕ → List ℕ → Bool
radices_fit p R = every (λ j. not (bad_radix p (at R j))) (length R)

-- n at least 1, L at most 64, t at most 32, C at most 1,024
unfoldable pub out_of_range : ℕ → ℕ → ℕ → Bool
out_of_range n m t = ltb n 1 || (ltb 64 (n + m) || (ltb 32 t || ltb 1024 ((t + 1) * (n + m))))

-- the product at most 4,096
abbrev pub number_causes : ℕ → ℕ → ℕ → ℕ → ℕ → List ℕ → List (ℕ × Bool)
number_causes p s n m t R =
    (1, not (odd_prime p))
    ∷ (2, (bad_radix p s || not (radices_fit p R)))
    ∷ (3, (out_of_range n m t || ltb 4096 (product R)))
    ∷ []

abbrev pub radix_causes : ℕ → List ℕ → List (ℕ × Bool)
radix_causes p R = (2, not (radices_fit p R)) ∷ (3, ltb 4096 (product R)) ∷ []

abbrev pub plan : ℕ → ℕ → ℕ → ℕ → ℕ → Plan
plan p s n m t = record { p = p; s = s; n = n; m = m; t = t }

abbrev pub numbers_of : Plan → List ℕ
numbers_of P = P.p ∷ P.s ∷ P.n ∷ P.m ∷ P.t ∷ []

abbrev pub answer_of : Result Plan Refusal → Answer
answer_of a = answer_with numbers_of a

unfoldable pub checked : ℕ → ℕ → ℕ → ℕ → ℕ → List ℕ → Answer
checked p s n m t R = answer (first (number_causes p s n m t R)) (numbers_of (plan p s n m t))

pub record Within (P : Plan) : Type 0 where
  pub prime : odd_prime P.p ≡ true
  pub value_low : 2 ≤ P.s
  pub value-high : P.s ≤ P.p
  pub digit-count : 1 ≤ P.n
  pub variable-limit : P.n + P.m ≤ 64
  pub products-limit : P.t ≤ 32
  pub column-limit : (P.t + 1) * (P.n + P.m) ≤ 1024

pub record Radices (P : Plan) (R : List ℕ) : Type 0 where
  pub count : length R ≡ P.n
  pub fit : radices_fit P.p R ≡ true
  pub limit : product R ≤ 4096
