-- Relations among the columns that the d rows make: numbers for which the right-hand side of Equation 1 is 0 modulo p, whatever the variables are.
--     Relation P d γ          γ is one
--     dot P f xs              L numbers times the variables, summed
--     product-relation        u in block b, and -c_a w in each block a before it, are one where (w · x) Σ_a c_a (d_a · x) is (u · x) (d_b · x)
--     combined-dot            a sum of multiples of d rows times the variables is that sum of multiples of the weighted sums
--     d-relation              so u, a sum of multiples c of the d rows before row b, and -c_a d_b make one: both products are those of d rows
--     stale-relation          where d row b is such a sum itself, so do any u and -c_a u
-- Assumes nothing.
use mathlib.Core.Path.{◌≡◌, refl, sym, ap, ap₂, ◌∙◌}
use mathlib.Core.Bool.{cond}
use mathlib.Core.List.{List}
use Prim.Native.Nat.{ℕ, ◌+◌, ◌-◌, ◌*◌, ◌/◌, ◌%◌, ◌<◌}
use native.Mathlib.Nat.{le_refl, zero-mul, add-zero, mul_comm, mul-le-mul_right}
use native.Mathlib.Omega.{arith}
use lib.Dec.{eqb, ltb}
use lib.Arith.{digits_div, digits_mod}
use borrow.Author.Tests.{eq-eqb, ne_eqb, lt-ltb, le-ltb}
use Rattle.lists.specs.Places.{sum, tab, at}
use Rattle.lists.proofs.Sums.{sum-ext, sum-mul, sum-append, sum-none, sum-only}
use Rattle.lists.proofs.Tabs.{tab-at}
use Rattle.field.proofs.Modular.{cong-of, cong-add, cong-mul, sum-cong}
use Rattle.plan.specs.declared.numbers.Plan.{Plan}
use Rattle.plan.specs.Numbers.{variables, columns}
use Rattle.plan.specs.Rows.{weighted}
use Rattle.plan.specs.Equation.{equation1}
use Rattle.store.specs.Elimination.{Satisfies}
use Rattle.store.specs.Span.{Combined}
use Rattle.store.proofs.Combinations.{satisfies-sum}
use Rattle.laws.proofs.DRows.{mirrored, mirrored-at}

abbrev pub Relation : Plan → List ℕ → List ℕ → Type 0
Relation P d γ = (xs : List ℕ) → equation1 P d γ xs % P.p ≡ 0 % P.p

abbrev pub dot : Plan → (ℕ → ℕ) → List ℕ → ℕ
dot P f xs = sum (λ j. f j * at xs j) (variables P)

-- the numbers of block i: u in block b, m c_i w in those before, where m stands for -1
pub block_part : ℕ → ℕ → (ℕ → ℕ) → (ℕ → ℕ) → (ℕ → ℕ) → ℕ → ℕ → ℕ
block_part m b c w u i j = cond (eqb i b) (u j) (cond (ltb i b) (w j * (m * c i)) 0)

unfoldable pub relation : Plan → ℕ → (ℕ → ℕ) → (ℕ → ℕ) → (ℕ → ℕ) → List ℕ
relation P b c w u = tab (columns P) (λ k. block_part (P.p - 1) b c w u (k / variables P) (k % variables P))

module _ (m b : ℕ) (c w u : ℕ → ℕ) where
  pub part-here : (j : ℕ) → block_part m b c w u b j ≡ u j
  unfolding block_part
  part-here j = rw (eq-eqb b b refl)

  pub part-above : (i j : ℕ) → b < i → block_part m b c w u i j ≡ 0
  unfolding block_part
  part-above i j l = rw (ne_eqb i b (λ e. omega arith), le-ltb i b (omega arith))

  part-below : (i j : ℕ) → i < b → block_part m b c w u i j ≡ w j * (m * c i)
  unfolding block_part
  part-below i j l = rw (ne_eqb i b (λ e. omega arith), lt-ltb i b l)

cancels : (p m W X : ℕ) → m + 1 ≡ p → (X * (W * m) + W * X) % p ≡ 0 % p
cancels p m W X e = cong-of p (X * (W * m) + W * X) 0 0 (W * X) (omega (arith, ap (λ (n : ℕ). W * X * n) e))

module _ (P : Plan) (d : List ℕ) (b : ℕ) (near : b < P.t) (c w u : ℕ → ℕ) where
  γ : List ℕ
  γ = relation P b c w u

  m : ℕ
  m = P.p - 1

  pub relation-at : (i j : ℕ) → i < P.t + 1 → j < variables P → at (relation P b c w u) (i * variables P + j) ≡ block_part (P.p - 1) b c w u i j
  unfolding relation
  relation-at i j hi hj =
      tab-at (columns P) (λ k. block_part (P.p - 1) b c w u (k / variables P) (k % variables P)) 0 (i * variables P + j)
      (omega (arith, mul-le-mul_right (variables P) hi))
      ∙ rw (digits_div i hj, digits_mod i hj)

  module _ (xs : List ℕ) where
    -- block i of it times the variables
    left : ℕ → ℕ
    left i = sum (λ j. at γ (i * variables P + j) * at xs j) (variables P)

    left_is : (i : ℕ) → i < P.t + 1 → (f : ℕ → ℕ) → ((j : ℕ) → block_part m b c w u i j ≡ f j) → left i ≡ dot P f xs
    unfolding left γ m
    left_is i hi f h =
        sum-ext (λ j. at (relation P b c w u) (i * variables P + j) * at xs j) (λ j. f j * at xs j) (variables P)
        (λ j hj. ap (λ (n : ℕ). n * at xs j) (relation-at i j hi hj ∙ h j))

    left_here : left b ≡ dot P u xs
    left_here = left_is b (omega arith) u (part-here m b c w u)

    left-above : (i : ℕ) → b < i → i < P.t + 1 → left i ≡ 0
    left-above i l hi = left_is i hi (λ _. 0) (λ j. part-above m b c w u i j l) ∙ sum-none (λ j. 0 * at xs j) (variables P) (λ j k. zero-mul (at xs j))

    left_below : (i : ℕ) → i < b → left i ≡ dot P w xs * (m * c i)
    left_below i l =
        left_is i (omega arith) (λ j. w j * (m * c i)) (λ j. part-below m b c w u i j l)
        ∙ sum-ext (λ j. w j * (m * c i) * at xs j) (λ j. w j * at xs j * (m * c i)) (variables P) (λ j k. omega arith)
        ∙ sum-mul (λ j. w j * at xs j) (m * c i) (variables P)

    D : ℕ → ℕ
    D a = weighted P d xs a

    products : sum (λ i. left i * D i) P.t ≡ sum (λ a. c a * D a) b * (dot P w xs * m) + dot P u xs * D b
    products =
        let count : b + (P.t - b) ≡ P.t = omega arith in
        ap (sum (λ i. left i * D i)) (sym count)
        ∙ sum-append (λ i. left i * D i) b (P.t - b)
        ∙ ap₂ ◌+◌
        (sum-ext (λ i. left i * D i) (λ a. c a * D a * (dot P w xs * m)) b (λ i l. ap (λ (n : ℕ). n * D i) (left_below i l) ∙ omega arith)
        ∙ sum-mul (λ a. c a * D a) (dot P w xs * m) b)
        (sum-only (λ k. left (b + k) * D (b + k)) (P.t - b) 0 (omega arith) (λ k l n. ap (λ (x : ℕ). x * D (b + k)) (left-above (b + k) (omega arith) (omega arith)) ∙ zero-mul (D (b + k)))
        ∙ rw (add-zero b, left_here))

    whole : equation1 P d γ xs ≡ sum (λ a. c a * D a) b * (dot P w xs * m) + dot P u xs * D b
    unfolding equation1 left D weighted
    whole = ap₂ ◌+◌ products (left-above P.t near (omega arith)) ∙ add-zero _

    pub product-relation : 0 < P.p → (dot P w xs * sum (λ a. c a * weighted P d xs a) b) % P.p ≡ (dot P u xs * weighted P d xs b) % P.p
        → equation1 P d (relation P b c w u) xs % P.p ≡ 0 % P.p
    unfolding D γ m
    product-relation pos h =
        let X = sum (λ a. c a * weighted P d xs a) b in
        let W = dot P w xs in
        ap (λ (n : ℕ). n % P.p) whole
        ∙ cong-add P.p (X * (W * (P.p - 1))) (X * (W * (P.p - 1))) (dot P u xs * weighted P d xs b) (W * X) refl (sym h)
        ∙ cancels P.p (P.p - 1) W X (omega arith)

pub combined-dot : (P : Plan) (d : List ℕ) (b : ℕ) (f : ℕ → ℕ) (c : Combined P.p (variables P) (mirrored P d) b f) (xs : List ℕ)
    → dot P (λ j. f (variables P - 1 - j)) xs % P.p ≡ sum (λ a. c.by a * weighted P d xs a) b % P.p
unfolding weighted
combined-dot P d b f c xs =
    sum-cong P.p (λ j. f (variables P - 1 - j) * at xs j) (λ j. sum (λ a. c.by a * A a j) b * at xs j) (variables P)
    (λ j l. cong-mul P.p (f (variables P - 1 - j)) (sum (λ a. c.by a * A a j) b) (at xs j) (at xs j) (place j l) refl)
    ∙ satisfies-sum P.p (variables P) (at xs) c.by A b (λ a l. each a)
    ∙ ap (λ (n : ℕ). n % P.p) (sum-ext (λ a. c.by a * A a (variables P)) (λ a. c.by a * weighted P d xs a) b (λ a l. ap (λ (n : ℕ). c.by a * n) (last a)))
  where
    -- d row a, with its weighted sum for a right-hand side
    A : ℕ → ℕ → ℕ
    A a j = cond (ltb j (variables P)) (at d (a * variables P + j)) (weighted P d xs a)

    below : (a j : ℕ) → j < variables P → A a j ≡ at d (a * variables P + j)
    below a j l = rw (lt-ltb j (variables P) l)

    last : (a : ℕ) → A a (variables P) ≡ weighted P d xs a
    last a = rw (le-ltb (variables P) (variables P) (le_refl (variables P)))

    each : (a : ℕ) → Satisfies P.p (variables P) (A a) (at xs)
    each a =
        ap (λ (n : ℕ). n % P.p)
        (sum-ext (λ j. A a j * at xs j) (λ k. at d (a * variables P + k) * at xs k) (variables P) (λ j l. ap (λ (n : ℕ). n * at xs j) (below a j l))
        ∙ sym (last a))

    place : (j : ℕ) → j < variables P → f (variables P - 1 - j) % P.p ≡ sum (λ a. c.by a * A a j) b % P.p
    place j l =
        c.sums (variables P - 1 - j) (omega arith)
        ∙ ap (λ (n : ℕ). n % P.p)
        (sum-ext (λ a. c.by a * mirrored P d a (variables P - 1 - j)) (λ a. c.by a * A a j) b
        (λ a k. ap (λ (n : ℕ). c.by a * n) (mirrored-at P d a j l ∙ sym (below a j l))))

module _ (P : Plan) (d : List ℕ) (pos : 0 < P.p) (b : ℕ) (near : b < P.t) where
  pub d-relation : (f : ℕ → ℕ) (c : Combined P.p (variables P) (mirrored P d) b f) → Relation P d (relation P b c.by (λ j. at d (b * variables P + j)) (λ j. f (variables P - 1 - j)))
  unfolding weighted
  d-relation f c xs =
      let u : ℕ → ℕ = λ j. f (variables P - 1 - j) in
      let w : ℕ → ℕ = λ j. at d (b * variables P + j) in
      product-relation P d b near c.by w u xs pos
      (cong-mul P.p (dot P w xs) (dot P w xs) (sum (λ a. c.by a * weighted P d xs a) b) (dot P u xs) refl (sym (combined-dot P d b f c xs))
      ∙ ap (λ (n : ℕ). n % P.p) (mul_comm (dot P w xs) (dot P u xs)))

  pub stale-relation : (c : Combined P.p (variables P) (mirrored P d) b (mirrored P d b)) (u : ℕ → ℕ) → Relation P d (relation P b c.by u u)
  unfolding weighted
  stale-relation c u xs =
      product-relation P d b near c.by u u xs pos
      (cong-mul P.p (dot P u xs) (dot P u xs) (sum (λ a. c.by a * weighted P d xs a) b) (weighted P d xs b) refl
      (sym (combined-dot P d b (mirrored P d b) c xs)
      ∙ ap (λ (n : ℕ). n % P.p)
      (sum-ext (λ j. mirrored P d b (variables P - 1 - j) * at xs j) (λ k. at d (b * variables P + k) * at xs k) (variables P)
      (λ j l. ap (λ (n : ℕ). n * at xs j) (mirrored-at P d b j l)))))
