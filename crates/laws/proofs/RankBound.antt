-- A store whose rows obey every relation that the d rows make has at most `most_new` pivots.
--     smaller-below, smaller-least      the smaller of two numbers
--     ends                  a column of a product's block at which a relation ends has no pivot
--     stale-block           where d row b is a sum of multiples of those before, block b has no pivot
--     fresh-block           else it has at most L less the pivots of the d rows before it
--     blocks-count          so the first b blocks together have at most r L - r (r - 1) / 2, where r are the pivots of the first b d rows
--     pivots-bound          so all blocks together, with the L columns of the last, have at most `most_new`: the theorem
-- Assumes nothing.
use mathlib.Core.Path.{◌≡◌, refl, sym, ap, ◌∙◌}
use mathlib.Core.Bool.{true, cond}
use mathlib.Core.Logic.{⊎_elim}
use mathlib.Core.List.{List}
use Prim.Native.Nat.{ℕ, zero, suc, ◌+◌, ◌-◌, ◌*◌, ◌/◌, ◌%◌, ◌≤◌, ◌<◌}
use native.Mathlib.Nat.{le_refl, le_of_lt, mod-lt, mod-add-div', mul-le-mul_right, zero-add}
use native.Mathlib.Decide.{dec_lt, ℕ_discrete}
use native.Mathlib.Omega.{arith}
use lib.Dec.{eqb, ltb}
use borrow.Author.Tests.{eq-eqb, ne_eqb, lt-ltb, le-ltb}
use Rattle.lists.specs.Places.{sum, at}
use Rattle.lists.proofs.Sums.{sum-zero, sum-suc, sum-next, sum-ext, sum-add, sum-append, sum-none, sum-le, sum-blocks}
use Rattle.lists.proofs.Tabs.{tab-at}
use Rattle.field.specs.Primes.{odd_prime}
use Rattle.field.specs.Residues.{Residues}
use Rattle.plan.specs.declared.numbers.Plan.{Plan}
use Rattle.plan.specs.Numbers.{variables, columns}
use Rattle.store.specs.Elimination.{Reduced}
use Rattle.store.specs.Span.{Combined}
use Rattle.store.proofs.Filing.{above-one, positive}
use Rattle.laws.specs.Rank.{rows_most, most_new}
use Rattle.laws.proofs.Pivots.{mark, mark-most, mark-zero, pivots, pivots-empty, pivots-most}
use Rattle.laws.proofs.Relations.{Obeys, relation-ends}
use Rattle.laws.proofs.DRows.{mirrored, filed_rows, DStore, d_store, fresh, stale, next}
use Rattle.laws.proofs.WastedColumns.{Relation, block_part, relation, part-here, part-above, relation-at, d-relation, stale-relation}

-- a sum from its last term to its first
sum_back : (f : ℕ → ℕ) (n : ℕ) → sum (λ j. f (n - 1 - j)) n ≡ sum f n
sum_back f zero = sum-zero (λ j. f (0 - 1 - j)) ∙ sym (sum-zero f)
sum_back f (suc n) =
    let turned : sum (λ j. f (suc n - 1 - j)) (1 + n) ≡ sum (λ j. f (suc n - 1 - j)) 1 + sum (λ j. f (suc n - 1 - (1 + j))) n =
    sum-append (λ j. f (suc n - 1 - j)) 1 n in
    let count : ◌≡◌ {A = ℕ} (1 + n) (suc n) = omega arith in
    let first : sum (λ j. f (suc n - 1 - j)) 1 ≡ f n =
    sum-suc (λ j. f (suc n - 1 - j)) 0 ∙ rw (sum-zero (λ j. f (suc n - 1 - j)), zero-add (f (suc n - 1 - 0))) (ap f (omega arith)) in
    let rest : sum (λ j. f (suc n - 1 - (1 + j))) n ≡ sum (λ j. f (n - 1 - j)) n =
    sum-ext (λ j. f (suc n - 1 - (1 + j))) (λ j. f (n - 1 - j)) n (λ j l. ap f (omega arith)) in
    omega (arith, ap (sum (λ j. f (suc n - 1 - j))) (sym count), turned, first, rest, sum_back f n, sum-suc f n)

pub smaller-below : (a b : ℕ) → (cond (ltb a b) a b ≤ a) × (cond (ltb a b) a b ≤ b)
smaller-below a b = elim (dec_lt a b) [
  | yes l ↦ rw (lt-ltb a b l) (le_refl a, omega arith)
  | no l ↦ rw (le-ltb a b (omega arith)) (omega arith, le_refl b)
]

smaller-least : (r a b : ℕ) → r ≤ a → r ≤ b → r ≤ cond (ltb a b) a b
smaller-least r a b h k = elim (dec_lt a b) [
  | yes l ↦ rw (lt-ltb a b l) h
  | no l ↦ rw (le-ltb a b (omega arith)) k
]

-- r L - r (r - 1) / 2 grows with r up to L
bound-grows : (r k L : ℕ) → r + (r + k) ≤ 2 * L → 2 * (r * L) + r + (r + k) * (r + k) ≤ 2 * ((r + k) * L) + (r + k) + r * r
bound-grows r k L h =
    let z = 2 * L - (r + (r + k)) in
    let e : r + (r + k) + z ≡ 2 * L = omega arith in
    omega (arith, ap (λ (n : ℕ). k * n) e)

-- the bound from the pivots of the products' blocks, U, and of the last, B
counted-most : (n U B r q L : ℕ) → n ≡ U + B → B ≤ L → 2 * U + r * r ≤ 2 * (r * L) + r → r ≤ q → q ≤ L → n ≤ (q + 1) * L - q * (q - 1) / 2
counted-most n U B r q L e last sums low high =
    let k = q - r in
    let more : r + k ≡ q = omega arith in
    let grown = bound-grows r k L (omega arith) in
    halved n q L (omega (arith, rw more at grown))
  where
    square : (q : ℕ) → q * (q - 1) + q ≡ q * q
    square zero = refl
    square (suc k) = let e : suc k - 1 ≡ k = omega arith in rw e (omega arith)

    halved : (n q L : ℕ) → 2 * n + q * q ≤ 2 * ((q + 1) * L) + q → n ≤ (q + 1) * L - q * (q - 1) / 2
    halved n q L h = omega (arith, square q)

module _ (P : Plan) (d : List ℕ) (prime : odd_prime P.p ≡ true) (residues : Residues P.p d) (S : ℕ → ℕ → ℕ)
    (red : Reduced P.p (columns P) S)
    (obeys : (γ : List ℕ) → Relation P d γ → (q : ℕ) → q < columns P → Obeys P.p (columns P) (at γ) (S q)) where
  ends : (b i : ℕ) → b < P.t → i < variables P → (c w u : ℕ → ℕ) → Relation P d (relation P b c w u)
      → u i ≡ 1 → ((j : ℕ) → j < variables P → i < j → u j ≡ 0) → S (b * variables P + i) (b * variables P + i) ≡ 0
  unfolding relation
  ends b i near l c w u r one none =
      relation-ends P.p (columns P) (at γ) S (b * variables P + i) (above-one P.p prime) red room (obeys γ r (b * variables P + i) room)
      (relation-at P d b near c w u b i (omega arith) l ∙ part-here (P.p - 1) b c w u i ∙ one)
      (λ k hk past.
      tab-at (columns P) (λ n. block_part (P.p - 1) b c w u (n / variables P) (n % variables P)) 0 k hk
      ∙ behind (k / variables P) (k % variables P) (mod-lt k (omega arith)) (omega (arith, mod-add-div' k (variables P))))
    where
      γ : List ℕ
      γ = relation P b c w u

      room : b * variables P + i < columns P
      room = omega (arith, mul-le-mul_right (variables P) near)

      behind : (a j : ℕ) → j < variables P → b * variables P + i < a * variables P + j → block_part (P.p - 1) b c w u a j ≡ 0
      behind a j hj past = elim (ℕ_discrete a b) [
        | yes e ↦ rw e (part-here (P.p - 1) b c w u j ∙ none j hj (omega (arith, ap (λ (n : ℕ). n * variables P) e)))
        | no x ↦ part-above (P.p - 1) b c w u a j (elim (dec_lt b a) [
          | yes o ↦ o
          | no o ↦
              let low : suc a ≤ b = omega arith in
              absurd (omega (arith, mul-le-mul_right (variables P) low))
        ])
      ]

  -- how many pivots block b has
  in_block : ℕ → ℕ
  in_block b = sum (λ j. mark (S (b * variables P + j) (b * variables P + j))) (variables P)

  d_pivots : ℕ → ℕ
  d_pivots b = pivots (variables P) (filed_rows P d b)

  stale-block : (b : ℕ) → b < P.t → Combined P.p (variables P) (mirrored P d) b (mirrored P d b) → in_block b ≡ 0
  unfolding in_block
  stale-block b near c =
      sum-none (λ j. mark (S (b * variables P + j) (b * variables P + j))) (variables P)
      (λ i l. mark-zero (S (b * variables P + i) (b * variables P + i))
      (ends b i near l c.by (unit i) (unit i) (stale-relation P d (positive P.p prime) b near c (unit i)) (rw (eq-eqb i i refl)) (λ j k o. rw (ne_eqb j i (λ e. omega arith)))))
    where
      unit : ℕ → ℕ → ℕ
      unit i j = cond (eqb j i) 1 0

  fresh-block : (b : ℕ) → b < P.t → in_block b + d_pivots b ≤ variables P
  unfolding in_block d_pivots pivots
  fresh-block b near =
      omega (
        arith,
        sum_back (λ q. mark (D q q)) (variables P),
        sum-add (λ j. mark (S (b * variables P + j) (b * variables P + j))) (λ j. mark (D (variables P - 1 - j) (variables P - 1 - j))) (variables P),
        sum-le (λ j. mark (S (b * variables P + j) (b * variables P + j)) + mark (D (variables P - 1 - j) (variables P - 1 - j))) 1 (variables P) either,
      )
    where
      D : ℕ → ℕ → ℕ
      D = filed_rows P d b

      s : DStore P d b
      s = d_store P d prime residues b

      either : (i : ℕ) → i < variables P → mark (S (b * variables P + i) (b * variables P + i)) + mark (D (variables P - 1 - i) (variables P - 1 - i)) ≤ 1
      either i l =
          let q = variables P - 1 - i in
          let hq : q < variables P = omega arith in
          ⊎_elim
          (λ z. omega (arith, mark-zero (D q q) (z q (le_of_lt hq)), mark-most (S (b * variables P + i) (b * variables P + i))))
          (λ v. omega (
            arith,
            mark-most (D q q),
            mark-zero (S (b * variables P + i) (b * variables P + i))
                (ends b i near l (s.rows q hq).by (λ j. at d (b * variables P + j)) (λ j. D q (variables P - 1 - j))
                (d-relation P d (positive P.p prime) b near (D q) (s.rows q hq)) v.one (λ j k o. v.left (variables P - 1 - j) (omega arith))),
          ))
          (s.reduced.rows q hq)

  record Counted (b : ℕ) : Type 0 where
    sums : 2 * sum in_block b + d_pivots b * d_pivots b ≤ 2 * (d_pivots b * variables P) + d_pivots b
    rows : d_pivots b ≤ b

  blocks-count : (b : ℕ) → b ≤ P.t → Counted b
  unfolding d_pivots filed_rows
  blocks-count zero l =
      let none : d_pivots 0 ≡ 0 = pivots-empty (variables P) in
      record {
        sums = rw (none, sum-zero in_block) (omega arith);
        rows = omega (arith, none);
      }
  blocks-count (suc b) l =
      let c = blocks-count b (omega arith) in
      let near : b < P.t = omega arith in
      let more = sum-suc in_block b in
      elim (next P d prime residues b) [
        | fresh e ↦
            let grown : d_pivots (suc b) ≡ d_pivots b + 1 = e in
            record {
              sums = rw grown (omega (arith, more, c.sums, fresh-block b near));
              rows = omega (arith, c.rows, grown);
            }
        | stale e k ↦
            let same : d_pivots (suc b) ≡ d_pivots b = e in
            record {
              sums = rw same (omega (arith, more, c.sums, stale-block b near k));
              rows = omega (arith, c.rows, same);
            }
      ]

  pub pivots-bound : pivots (columns P) S ≤ most_new P
  unfolding most_new pivots in_block d_pivots rows_most
  pivots-bound =
      counted-most (pivots (columns P) S) (sum in_block P.t) (in_block P.t) (d_pivots P.t) (rows_most P) (variables P) total last all.sums
      (smaller-least (d_pivots P.t) P.t (variables P) all.rows few) (smaller-below P.t (variables P)).1
    where
      all : Counted P.t
      all = blocks-count P.t (le_refl P.t)

      total : pivots (columns P) S ≡ sum in_block P.t + in_block P.t
      total = sum-blocks (λ k. mark (S k k)) (P.t + 1) (variables P) ∙ sum-next in_block P.t

      last : in_block P.t ≤ variables P
      last = omega (arith, sum-le (λ j. mark (S (P.t * variables P + j) (P.t * variables P + j))) 1 (variables P) (λ j k. mark-most (S (P.t * variables P + j) (P.t * variables P + j))))

      few : d_pivots P.t ≤ variables P
      few = pivots-most (variables P) (filed_rows P d P.t)
