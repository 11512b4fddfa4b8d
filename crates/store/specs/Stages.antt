-- The stages of a filing as the code goes through them, for the contracts of the functions below `file`; what they come to is said by
-- `Elimination`, on which this stands with the row operations of `field`. 01, "The store", of the last stage: "Clearing a column from a row
-- writes that row alone, from that column onward."
--     Ready p C store        the store that an equation is filed into: as long as it must be, and in reduced form
--     Line p C xs            a line of the store or an equation: C + 1 residues
--     deferred p S e n j     e less its coefficients times the first n rows, at place j, with nothing reduced yet
--     factor p f d           what a row with d on the diagonal is multiplied by, so that f times it is subtracted
--     Poured acc short left rows acc' short' r      acc and short with room for left rows, and what is left of them: as they were, or short
--                            poured into acc where there was no room; r is how many rows there is room for then
--     cleared p S N c r j    column c cleared by N from the rows above row c alone
--     NextFree C S from r    r is the first column from `from` on that has no pivot, or C where there is none
use Rattle.std.specs.Prelude.{◌≡◌, cond, ◌≢◌, List, ℕ, ◌+◌, ◌-◌, ◌*◌, ◌%◌, ◌≤◌, ◌<◌, eqb, ltb, length}
use Rattle.lists.specs.Places.{sum, tab}
use Rattle.field.specs.Residues.{Modulus, Residues}
use Rattle.field.specs.Rows.{plus_times}
use Rattle.plan.specs.Parts.{store_size}
use Rattle.store.specs.Elimination.{Reduced, cells}

pub record Ready (p C : ℕ) (store : List ℕ) : Type 0 where
  pub modulus : Modulus p
  pub limit : C ≤ 1024
  pub places : length store ≡ store_size C
  pub reduced : Reduced p C (cells C store)

pub record Line (p C : ℕ) (xs : List ℕ) : Type 0 where
  pub places : length xs ≡ C + 1
  pub residues : Residues p xs

unfoldable pub deferred : ℕ → (ℕ → ℕ → ℕ) → (ℕ → ℕ) → ℕ → ℕ → ℕ
deferred p S e n j = e j + sum (λ q. (p - e q) % p * S q j) n

unfoldable pub factor : ℕ → ℕ → ℕ → ℕ
factor p f d = cond (eqb d 0) 0 ((p - f) % p)

abbrev pub Poured : List ℕ → List ℕ → ℕ → ℕ → List ℕ → List ℕ → ℕ → Type 0
Poured acc short left rows acc' short' r =
    (r ≡ cond (ltb 0 left) left rows)
    × (acc' ≡ cond (ltb 0 left) acc (plus_times 1 acc short))
    × (short' ≡ cond (ltb 0 left) short (tab (length short) (λ _. 0)))

unfoldable pub cleared : ℕ → (ℕ → ℕ → ℕ) → (ℕ → ℕ) → ℕ → ℕ → ℕ → ℕ
cleared p S N c r j = cond (ltb r c) ((S r j + (p - S r c) * N j) % p) (S r j)

pub record NextFree (C : ℕ) (S : ℕ → ℕ → ℕ) (from r : ℕ) : Type 0 where
  pub low : from ≤ r
  pub high : r ≤ C
  pub passed : (j : ℕ) → from ≤ j → j < r → S j j ≢ 0
  pub stopped : r < C → S r r ≡ 0
