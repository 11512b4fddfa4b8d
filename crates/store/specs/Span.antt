-- 01, "The store": "After it the store is the one reduced form whose rows span the same equations as the old store and the entry." Rows span
-- the equations that are sums of multiples of them modulo p, coefficients and right-hand side alike; two lists of rows span the same if each
-- row of one is such a sum of the rows of the other: then so is every sum of multiples (`Spans.span-equations`). Stands on `Elimination` and
-- `Calls`.
--     Combined p C A n e         the equation e is a sum of multiples of the first n rows of A, row q taken `by` q times
--     SameSpan p C A a B b       each of the first a rows of A is a sum of multiples of the first b rows of B, and the other way round
--     with_row C S e             the C rows of S, and e as the row after them
--     Spans G S i v S'           S' is in reduced form, and its rows span the same equations as the old store S and the entry i with value v
--     OneReduced G S i v         the store after filing is the one that does
use Rattle.std.specs.Prelude.{◌≡◌, cond, List, ℕ, ◌+◌, ◌*◌, ◌%◌, ◌≤◌, ◌<◌, ltb, length}
use Rattle.lists.specs.Places.{sum}
use Rattle.plan.specs.Numbers.{columns}
use Rattle.plan.specs.Parts.{Given, store_size}
use Rattle.store.specs.Elimination.{Reduced, cells}
use Rattle.store.specs.Calls.{equation, filed}

pub record Combined (p C : ℕ) (A : ℕ → ℕ → ℕ) (n : ℕ) (e : ℕ → ℕ) : Type 0 where
  pub by : ℕ → ℕ
  pub sums : (j : ℕ) → j ≤ C → e j % p ≡ sum (λ q. by q * A q j) n % p

abbrev pub SameSpan : ℕ → ℕ → (ℕ → ℕ → ℕ) → ℕ → (ℕ → ℕ → ℕ) → ℕ → Type 0
SameSpan p C A a B b = ((q : ℕ) → q < a → Combined p C B b (A q)) × ((q : ℕ) → q < b → Combined p C A a (B q))

abbrev pub with_row : ℕ → (ℕ → ℕ → ℕ) → (ℕ → ℕ) → ℕ → ℕ → ℕ
with_row C S e q = cond (ltb q C) (S q) e

pub record Spans (G : Given) (S : List ℕ) (i v : ℕ) (S' : List ℕ) : Type 0 where
  pub places : length S' ≡ store_size (columns G.numbers)
  pub reduced : Reduced G.numbers.p (columns G.numbers) (cells (columns G.numbers) S')
  pub span : SameSpan G.numbers.p (columns G.numbers) (cells (columns G.numbers) S') (columns G.numbers)
      (with_row (columns G.numbers) (cells (columns G.numbers) S) (equation G i v)) (columns G.numbers + 1)

pub record OneReduced (G : Given) (S : List ℕ) (i v : ℕ) : Type 0 where
  pub spans : Spans G S i v (filed G S i v)
  pub one : (S' : List ℕ) → Spans G S i v S' → S' ≡ filed G S i v
