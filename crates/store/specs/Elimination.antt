-- 01, "The store": equations, reduced form, filing in closed form, reading off; and 02, C-16: the layout. Stands on `inverse` of `field`.
-- An equation is read by place: places 0 to C - 1 are its coefficients, place C is its right-hand side. A store is read by row and
-- column, S q j, each of its C rows an equation. Because the store is in reduced form, all multipliers of an elimination are known at
-- once, so filing is a formula and not an algorithm.
--     Satisfies p C e β      β satisfies the equation e: its coefficients times β, summed, are its right-hand side modulo p
--     Solves p C S β         β satisfies each row of the store
--     ZeroRow C S q          row q is all zero
--     Pivot C S q            row q's first nonzero coefficient is a 1 in column q, and column q is zero in every other row
--     Reduced p C S          01's reduced form: all bytes below p, each row of these two kinds
--     is_zero_row, is_pivot, is_reduced  the same as tests
--     residual p C S e       e less, for each row q, e's coefficient q times that row
--     lead f n               the first of n places at which f is not 0, else n
--     normal p f c           f times the inverse of its place c
--     inserted p S N c       the equation N inserted as row c, and column c cleared from every other row
--     Outcome                new with the pivot column, implied, or a contradiction
--     outcome p C S e        what filing e answers
--     after p C S e          the store after filing e
--     read_off C S q         coefficient q read off: the right-hand side of row q
--     row_start C q          where column 0 of row q would stand: row q starts q places behind it, with its column q
--     cells C store          a store's bytes read by row and column: what is not kept is 0
--     flat C S               the bytes of such a reading, `store_size C` of `plan`
use Rattle.std.specs.Prelude.{◌≡◌, Bool, cond, ◌&&◌, ◌||◌, ◌⊎◌, ◌≢◌, ℕ, zero, suc, ◌+◌, ◌-◌, ◌*◌, ◌%◌, ◌≤◌, ◌<◌, eqb, ltb, List}
use Rattle.lists.specs.Places.{sum, tab, joined, every, at}
use Rattle.field.specs.Residues.{inverse}

abbrev pub Satisfies : ℕ → ℕ → (ℕ → ℕ) → (ℕ → ℕ) → Type 0
Satisfies p C e β = sum (λ j. e j * β j) C % p ≡ e C % p

abbrev pub Solves : ℕ → ℕ → (ℕ → ℕ → ℕ) → (ℕ → ℕ) → Type 0
Solves p C S β = (q : ℕ) → q < C → Satisfies p C (S q) β

abbrev pub ZeroRow : ℕ → (ℕ → ℕ → ℕ) → ℕ → Type 0
ZeroRow C S q = (j : ℕ) → j ≤ C → S q j ≡ 0

pub record Pivot (C : ℕ) (S : ℕ → ℕ → ℕ) (q : ℕ) : Type 0 where
  pub left : (j : ℕ) → j < q → S q j ≡ 0
  pub one : S q q ≡ 1
  pub others : (r : ℕ) → r < C → r ≢ q → S r q ≡ 0

pub record Reduced (p C : ℕ) (S : ℕ → ℕ → ℕ) : Type 0 where
  pub residues : (q j : ℕ) → q < C → j ≤ C → S q j < p
  pub rows : (q : ℕ) → q < C → ZeroRow C S q ⊎ Pivot C S q

unfoldable pub is_zero_row : ℕ → (ℕ → ℕ → ℕ) → ℕ → Bool
is_zero_row C S q = every (λ j. eqb (S q j) 0) (C + 1)

unfoldable pub is_pivot : ℕ → (ℕ → ℕ → ℕ) → ℕ → Bool
is_pivot C S q = every (λ j. eqb (S q j) 0) q && (eqb (S q q) 1 && every (λ r. eqb r q || eqb (S r q) 0) C)

unfoldable pub is_reduced : ℕ → ℕ → (ℕ → ℕ → ℕ) → Bool
is_reduced p C S = every (λ q. every (λ j. ltb (S q j) p) (C + 1)) C && every (λ q. is_zero_row C S q || is_pivot C S q) C

unfoldable pub residual : ℕ → ℕ → (ℕ → ℕ → ℕ) → (ℕ → ℕ) → ℕ → ℕ
residual p C S e j = (e j + sum (λ q. (p - e q) * S q j) C) % p

unfoldable pub lead : (ℕ → ℕ) → ℕ → ℕ
lead f zero = 0
lead f (suc n) = cond (eqb (f 0) 0) (suc (lead (λ k. f (suc k)) n)) 0

unfoldable pub normal : ℕ → (ℕ → ℕ) → ℕ → ℕ → ℕ
normal p f c j = (inverse p (f c) * f j) % p

unfoldable pub inserted : ℕ → (ℕ → ℕ → ℕ) → (ℕ → ℕ) → ℕ → ℕ → ℕ → ℕ
inserted p S N c r j = cond (eqb r c) (N j) ((S r j + (p - S r c) * N j) % p)

pub data Outcome : Type 0 where
  new : ℕ → Outcome
  implied contradiction : Outcome

unfoldable pub outcome : ℕ → ℕ → (ℕ → ℕ → ℕ) → (ℕ → ℕ) → Outcome
outcome p C S e =
    cond (ltb (lead (residual p C S e) C) C) (new (lead (residual p C S e) C))
    (cond (eqb (residual p C S e C) 0) implied contradiction)

unfoldable pub after : ℕ → ℕ → (ℕ → ℕ → ℕ) → (ℕ → ℕ) → ℕ → ℕ → ℕ
after p C S e =
    cond (ltb (lead (residual p C S e) C) C)
    (inserted p S (normal p (residual p C S e) (lead (residual p C S e) C)) (lead (residual p C S e) C)) S

abbrev pub read_off : ℕ → (ℕ → ℕ → ℕ) → ℕ → ℕ
read_off C S q = S q C

-- "Left of its pivot a row is all zero, so the new store keeps of row q only columns q to C−1 and the right-hand side", row after row. Each row r
-- keeps C + 1 - r bytes, so row q starts, with its column q, at row_start C q + q
unfoldable pub row_start : ℕ → ℕ → ℕ
row_start C q = sum (λ r. C - r) q

unfoldable pub cells : ℕ → List ℕ → ℕ → ℕ → ℕ
cells C store q j = cond (ltb j q) 0 (at store (row_start C q + j))

unfoldable pub flat : ℕ → (ℕ → ℕ → ℕ) → List ℕ
flat C S = joined (λ q. tab (C + 1 - q) (λ j. S q (q + j))) C
