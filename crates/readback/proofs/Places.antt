-- Coefficients read out of a list of steps: read from what the writer wrote they are those that it wrote from.
--     rows-length, recovered-length       rows of l places each, and that there are C coefficients
--     recovered-layout            read from a written program
-- Assumes nothing.
use mathlib.Core.Path.{◌≡◌, refl, sym, ap, ◌∙◌}
use mathlib.Core.List.{List, ◌++◌}
use Prim.Native.Nat.{ℕ, zero, suc, ◌+◌, ◌-◌, ◌*◌, ◌/◌, ◌<◌}
use native.Mathlib.Nat.{mul-le-mul_right}
use native.Mathlib.Decide.{dec_lt}
use native.Mathlib.Omega.{arith}
use lib.ListN.{length, length-append, get_or-append}
use lib.Seq.{get_or-append-add}
use borrow.Author.Tests.{lt-ltb, le-ltb}
use Rattle.lists.specs.Places.{tab, joined, at}
use Rattle.lists.proofs.Tabs.{tab-length, tab-ext, is-tab}
use Rattle.lists.proofs.Joins.{joined-ext, joined_at, joined-tab}
use Rattle.plan.specs.declared.numbers.Plan.{Plan}
use Rattle.plan.specs.Numbers.{variables, columns}
use Rattle.program.specs.Steps.{by_of}
use Rattle.program.specs.Layout.{clear, add, adds, link_steps, square_steps, product_steps, layout}
use Rattle.program.proofs.Shape.{adds-length, joined_length, link-length, product-length, links-count, same_count}
use Rattle.readback.specs.Recovery.{first_product, coefficient_step, recovered}

-- behind a list of known length
behind : (xs ys : List ℕ) (a i : ℕ) → length xs ≡ a → at (xs ++ ys) (a + i) ≡ at ys i
behind xs ys a i e = ap (λ (n : ℕ). at (xs ++ ys) (n + i)) (sym e) ∙ get_or-append-add xs ys i 0

adds-by : (r : ℕ) (g : ℕ → ℕ) (n j : ℕ) → j < n → at (adds r g n) (4 * j + 3) ≡ g j
unfolding adds
adds-by r g n j l = joined_at (λ i. add r i (g i)) n j 3 (4 * j) l (omega arith) (adds-length r g j)

pub rows-length : (l : ℕ) (row : ℕ → List ℕ) → ((b : ℕ) → length (row b) ≡ l) → (n : ℕ) → length (joined row n) ≡ n * l
unfolding joined
rows-length l row h zero = omega arith
rows-length l row h (suc n) = rw length-append (omega (arith, rows-length l row h n, h n))

pub recovered-length : (P : Plan) (steps : List ℕ) → length (recovered P steps) ≡ columns P
unfolding recovered
recovered-length P steps = rows-length (variables P) (λ b. tab (variables P) (λ j. by_of steps (coefficient_step P b j))) (λ b. tab-length (variables P) (λ j. by_of steps (coefficient_step P b j))) (P.t + 1)

module _ (P : Plan) (w d β : List ℕ) where
  abbrev L : ℕ
  L = variables P

  abbrev size : ℕ
  size = 2 * L + 12

  abbrev rest : List ℕ
  rest = joined (product_steps P d β) P.t ++ adds (L + 4) (λ j. at β (P.t * L + j)) L

  links : length (joined (link_steps P w) P.m) ≡ 4 * (P.m * (P.n + 2) + P.m * (P.m - 1) / 2)
  links = joined_length (link_steps P w) (λ k. P.n + k + 2) P.m (link-length P w d β) ∙ ap (λ (n : ℕ). 4 * n) (links-count P.n P.m)

  products : (b : ℕ) → length (joined (product_steps P d β) b) ≡ 4 * (b * size)
  products b = joined_length (product_steps P d β) (λ _. size) b (product-length P w d β) ∙ ap (λ (n : ℕ). 4 * n) (same_count size b)

  -- behind the links and the clearing of y
  from-products : (k : ℕ) → at (layout P w d β) (4 * first_product P + k) ≡ at rest k
  unfolding layout
  from-products k =
      let before = P.m * (P.n + 2) + P.m * (P.m - 1) / 2 in
      let e : 4 * first_product P + k ≡ 4 * before + (4 + k) = omega arith in
      ap (at (joined (link_steps P w) P.m ++ (clear (L + 4) ++ rest))) e
      ∙ behind (joined (link_steps P w) P.m) (clear (L + 4) ++ rest) (4 * before) (4 + k) links
      ∙ behind (clear (L + 4)) rest 4 k refl

  in-product : (b j : ℕ) → b < P.t → j < L → by_of (layout P w d β) (first_product P + b * size + 1 + j) ≡ at β (b * L + j)
  unfolding product_steps
  in-product b j hb hj =
      let inside : 4 + (4 * j + 3) < length (product_steps P d β b) = rw (product-length P w d β b) (omega arith) in
      let place = 4 * (b * size) + (4 + (4 * j + 3)) in
      let e : 4 * (first_product P + b * size + 1 + j) + 3 ≡ 4 * first_product P + place = omega arith in
      let room : place < length (joined (product_steps P d β) P.t) = rw (products P.t) (omega (arith, mul-le-mul_right size hb)) in
      let second = clear (L + 1) ++ (adds (L + 1) (λ j. at d (b * L + j)) L ++ square_steps L P.m (P.p - 1)) in
      ap (at (layout P w d β)) e
      ∙ from-products place
      ∙ get_or-append (joined (product_steps P d β) P.t) (adds (L + 4) (λ j. at β (P.t * L + j)) L) 0 place room
      ∙ joined_at (product_steps P d β) P.t b (4 + (4 * j + 3)) (4 * (b * size)) hb inside (products b)
      ∙ behind (clear L) (adds L (λ j. at β (b * L + j)) L ++ second) 4 (4 * j + 3) refl
      ∙ get_or-append (adds L (λ j. at β (b * L + j)) L) second 0 (4 * j + 3) (rw (adds-length L (λ j. at β (b * L + j)) L) (omega arith))
      ∙ adds-by L (λ j. at β (b * L + j)) L j hj

  in-last : (j : ℕ) → j < L → by_of (layout P w d β) (first_product P + P.t * size + 0 + j) ≡ at β (P.t * L + j)
  in-last j hj =
      let place = 4 * (P.t * size) + (4 * j + 3) in
      let e : 4 * (first_product P + P.t * size + 0 + j) + 3 ≡ 4 * first_product P + place = omega arith in
      ap (at (layout P w d β)) e
      ∙ from-products place
      ∙ behind (joined (product_steps P d β) P.t) (adds (L + 4) (λ j. at β (P.t * L + j)) L) (4 * (P.t * size)) (4 * j + 3) (products P.t)
      ∙ adds-by (L + 4) (λ j. at β (P.t * L + j)) L j hj

  place : (b j : ℕ) → b < P.t + 1 → j < L → by_of (layout P w d β) (coefficient_step P b j) ≡ at β (b * L + j)
  unfolding coefficient_step
  place b j hb hj = elim (dec_lt b P.t) [
    | yes inner ↦ rw (lt-ltb b P.t inner) (in-product b j inner hj)
    | no last ↦
        let e : b ≡ P.t = omega arith in
        rw (le-ltb b P.t (omega arith), e) (in-last j hj)
  ]

  pub recovered-layout : length β ≡ columns P → recovered P (layout P w d β) ≡ β
  unfolding recovered
  recovered-layout e =
      joined-ext (λ b. tab L (λ j. by_of (layout P w d β) (coefficient_step P b j))) (λ b. tab L (λ j. at β (b * L + j))) (P.t + 1)
      (λ b hb. tab-ext L (λ j. by_of (layout P w d β) (coefficient_step P b j)) (λ j. at β (b * L + j)) 0 (λ j hj. place b j hb hj))
      ∙ joined-tab (at β) 0 (P.t + 1) L
      ∙ sym (is-tab β ((P.t + 1) * L) (at β) 0 e (λ i l. refl))
