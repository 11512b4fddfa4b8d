-- The 53 numbers of the table are the odd primes up to 251: one test that antt computes over all p up to 251, and a law beyond.
--     primes              the table
--     member_is           the search of the table succeeds exactly where `odd_prime` holds
--     odd_prime-above     none is above 251
--     is_prime-means      the test of primality is primality by divisors
--     odd_prime-means     `odd_prime` is: a prime, from 3 to 251
--     for-each-prime      a test that is computed for all p up to 251 gives its fact at every prime of the table
-- Assumes nothing.
use mathlib.Core.Path.{◌≡◌, refl, sym, ap, ◌∙◌}
use mathlib.Core.Bool.{Bool, true, false, not, ◌&&◌, ◌||◌, beq, true≢false, and-false}
use mathlib.Core.Logic.{◌↔◌}
use mathlib.Core.List.{List, [], ◌∷◌}
use Prim.Native.Nat.{ℕ, ◌+◌, ◌-◌, ◌%◌, ◌≤◌, ◌<◌}
use native.Mathlib.Decide.{dec_lt}
use native.Mathlib.Nat.{lt_of_not-le}
use native.Mathlib.Omega.{arith}
use lib.Dec.{eqb, leb, ltb}
use borrow.Author.Tests.{leb-true, lt-leb, le-leb, ltb-true, lt-ltb, ne_eqb, eqb-false, not-true}
use Rattle.std.specs.List.{list_any, list_all}
use Rattle.lists.specs.Places.{every}
use Rattle.lists.proofs.Tests.{both, both_true, every-at, every_of}
use Rattle.field.specs.Primes.{Prime, is_prime, odd_prime}

unfoldable pub primes : List ℕ
primes =
    3 ∷ 5 ∷ 7 ∷ 11 ∷ 13 ∷ 17 ∷ 19 ∷ 23 ∷ 29 ∷ 31 ∷ 37 ∷ 41 ∷ 43 ∷ 47 ∷ 53 ∷ 59 ∷ 61 ∷ 67 ∷ 71 ∷ 73 ∷ 79 ∷ 83 ∷ 89 ∷ 97 ∷ 101 ∷ 103 ∷ 107 ∷ 109 ∷ 113 ∷ 127
    ∷ 131 ∷ 137 ∷ 139 ∷ 149 ∷ 151 ∷ 157 ∷ 163 ∷ 167 ∷ 173 ∷ 179 ∷ 181 ∷ 191 ∷ 193 ∷ 197 ∷ 199 ∷ 211 ∷ 223 ∷ 227 ∷ 229 ∷ 233 ∷ 239 ∷ 241 ∷ 251 ∷ []

small : every (λ p. beq (list_any (λ q. eqb q p) primes) (odd_prime p)) 252 ≡ true
unfolding every is_prime odd_prime primes
small = refl

beq-eq : (a b : Bool) → beq a b ≡ true → a ≡ b
beq-eq true true h = refl
beq-eq true false h = sym h
beq-eq false true h = h
beq-eq false false h = refl

-- beyond 251 neither holds
within : list_all (λ q. ltb q 252) primes ≡ true
unfolding primes
within = refl

pub odd_prime-above : (p : ℕ) → 251 < p → odd_prime p ≡ false
unfolding odd_prime
odd_prime-above p h = rw (lt-leb p 251 h, and-false (leb 3 p))

absent-above : (p : ℕ) (xs : List ℕ) → 251 < p → list_all (λ q. ltb q 252) xs ≡ true → list_any (λ q. eqb q p) xs ≡ false
absent-above p [] h w = refl
absent-above p (x ∷ xs) h w =
    let ws = both_true (ltb x 252) (list_all (λ q. ltb q 252) xs) w in
    rw (ne_eqb x p (λ e. omega (arith, ltb-true x 252 ws.0, e))) (absent-above p xs h ws.1)

pub member_is : (p : ℕ) → list_any (λ q. eqb q p) primes ≡ odd_prime p
member_is p = elim (dec_lt p 252) [
  | yes l ↦ beq-eq (list_any (λ q. eqb q p) primes) (odd_prime p) (every-at (λ q. beq (list_any (λ x. eqb x q) primes) (odd_prime q)) 252 small p l)
  | no h ↦
      let l : 251 < p = lt_of_not-le (λ (k : p ≤ 251). h (omega arith)) in
      absent-above p primes l within ∙ sym (odd_prime-above p l)
]

pub is_prime-means : (p : ℕ) → (is_prime p ≡ true) ↔ Prime p
unfolding is_prime
is_prime-means p = (to, from)
  where
    divides : ℕ → Bool
    divides k = not (eqb (p % (k + 2)) 0)

    to : (ltb 1 p && every divides (p - 2)) ≡ true → Prime p
    to h =
        let hs = both_true (ltb 1 p) (every divides (p - 2)) h in (
          ltb-true 1 p hs.0,
          λ d low high e.
              let k : d - 2 + 2 ≡ d = omega arith in
              let t : divides (d - 2) ≡ true = every-at divides (p - 2) hs.1 (d - 2) (omega arith) in
              eqb-false (p % (d - 2 + 2)) 0 (not-true (eqb (p % (d - 2 + 2)) 0) t) (ap (λ (n : ℕ). p % n) k ∙ e),
        )

    from : Prime p → (ltb 1 p && every divides (p - 2)) ≡ true
    from h =
        both (ltb 1 p) (every divides (p - 2)) (lt-ltb 1 p h.0)
        (every_of divides (p - 2) (λ k l. ap not (ne_eqb (p % (k + 2)) 0 (h.1 (k + 2) (omega arith) (omega arith)))))

pub odd_prime-means : (p : ℕ) → (odd_prime p ≡ true) ↔ ((3 ≤ p) × (p ≤ 251) × Prime p)
unfolding odd_prime
odd_prime-means p = (
  (λ h.
      let hs = both_true (leb 3 p && leb p 251) (is_prime p) h in
      let ends = both_true (leb 3 p) (leb p 251) hs.0 in
      (leb-true 3 p ends.0, leb-true p 251 ends.1, (is_prime-means p).0 hs.1)),
  (λ h. both (leb 3 p && leb p 251) (is_prime p) (both (leb 3 p) (leb p 251) (le-leb 3 p h.0) (le-leb p 251 h.1)) ((is_prime-means p).1 h.2)),
)

-- a test for all primes of the table at once
pub for-each-prime : (f : ℕ → Bool) → every (λ p. not (odd_prime p) || f p) 252 ≡ true → (p : ℕ) → odd_prime p ≡ true → f p ≡ true
for-each-prime f t p h =
    let l : p ≤ 251 = ((odd_prime-means p).0 h).1 in
    drop-not (odd_prime p) (f p) h (every-at (λ q. not (odd_prime q) || f q) 252 t p (omega arith))
  where
    drop-not : (a b : Bool) → a ≡ true → (not a || b) ≡ true → b ≡ true
    drop-not true b e k = k
    drop-not false b e k = absurd (true≢false (sym e))
