-- The shape of the written program: its length, that it is well formed, and how many bootstraps it has.
--     layout-length          4 times the step count
--     layout-well_formed     none of the conditions of cause 11, where weights, d and β are residues
--     layout-bootstraps      m + 2t
--     step-limit             a checked plan has at most 4,307 steps: one digit, 63 links and 15 products have so many
--     link-length, product-length, adds-length       the lengths of its pieces
-- Assumes nothing.
use mathlib.Core.Path.{◌≡◌, refl, ◌∙◌}
use mathlib.Core.Bool.{true}
use mathlib.Core.List.{List}
use Prim.Native.Nat.{ℕ, zero, suc, ◌+◌, ◌-◌, ◌*◌, ◌/◌, ◌≤◌, ◌<◌}
use native.Mathlib.Nat.{le_refl, mul-le-mul, mul-le-mul_right}
use native.Mathlib.Decide.{dec_lt}
use native.Mathlib.Omega.{arith}
use lib.ListN.{length, length-append}
use borrow.Author.Tests.{le-leb, lt-ltb}
use Rattle.lists.specs.Places.{sum, joined, at}
use Rattle.lists.proofs.Sums.{sum-zero, sum-suc}
use Rattle.field.specs.Residues.{Residues}
use Rattle.plan.specs.Numbers.{variables, Within}
use Rattle.plan.specs.Parts.{link_start}
use Rattle.plan.specs.declared.numbers.Plan.{Plan}
use Rattle.plan.proofs.Bounds.{prime-low}
use Rattle.program.specs.Steps.{last_register, good_step, well_formed, bootstraps}
use Rattle.program.specs.Layout.{clear, add, boot, adds, link_steps, product_steps, layout, step_count}
use Rattle.program.proofs.Pieces.{Good, good-then, good-step, good-joined, good-well_formed, Boots, boots-then, boots-step, boots-joined}

-- lengths
pub adds-length : (r : ℕ) (g : ℕ → ℕ) (n : ℕ) → length (adds r g n) ≡ 4 * n
unfolding adds joined
adds-length r g zero = refl
adds-length r g (suc n) = rw length-append (omega (arith, adds-length r g n))

pub joined_length : (F : ℕ → List ℕ) (c : ℕ → ℕ) (n : ℕ) → ((k : ℕ) → length (F k) ≡ 4 * c k) → length (joined F n) ≡ 4 * sum c n
unfolding joined
joined_length F c zero h = rw sum-zero refl
joined_length F c (suc n) h = rw (length-append, sum-suc) (omega (arith, joined_length F c n h, h n))

-- how many steps the links and the products have
links-twice : (n m : ℕ) → 2 * sum (λ k. n + k + 2) m + m ≡ m * (2 * (n + 2)) + m * m
links-twice n zero = rw sum-zero (omega arith)
links-twice n (suc m) = rw sum-suc (omega (arith, links-twice n m))

pub one_less : (m : ℕ) → m * (m - 1) + m ≡ m * m
one_less zero = omega arith
one_less (suc m) =
    let e : suc m - 1 ≡ m = omega arith in
    rw e (omega arith)

pub links-count : (n m : ℕ) → sum (λ k. n + k + 2) m ≡ m * (n + 2) + m * (m - 1) / 2
links-count n m = omega (arith, links-twice n m, one_less m)

pub same_count : (c t : ℕ) → sum (λ i. c) t ≡ t * c
same_count c zero = rw sum-zero (omega arith)
same_count c (suc t) = rw sum-suc (omega (arith, same_count c t))

module _ (P : Plan) (w d β : List ℕ) where
  pub link-length : (k : ℕ) → length (link_steps P w k) ≡ 4 * (P.n + k + 2)
  unfolding link_steps
  link-length k =
      simp length-append (omega (arith, adds-length (P.n + k) (λ j. at w (link_start P k + j)) (P.n + k)))

  pub product-length : (i : ℕ) → length (product_steps P d β i) ≡ 4 * (2 * variables P + 12)
  unfolding product_steps
  product-length i =
      simp length-append
      (omega (arith, adds-length (variables P) (λ j. at β (i * variables P + j)) (variables P), adds-length (variables P + 1) (λ j. at d (i * variables P + j)) (variables P)))

  pub layout-length : length (layout P w d β) ≡ 4 * step_count P
  unfolding layout step_count
  layout-length =
      simp length-append
      (omega (
        arith,
        joined_length (link_steps P w) (λ k. P.n + k + 2) P.m link-length,
        joined_length (product_steps P d β) (λ i. 2 * variables P + 12) P.t product-length,
        adds-length (variables P + 4) (λ j. at β (P.t * variables P + j)) (variables P),
        links-count P.n P.m,
        same_count (2 * variables P + 12) P.t,
      ))

  adds-boots : (r : ℕ) (g : ℕ → ℕ) (n : ℕ) → Boots (adds r g n) (n * 0)
  unfolding adds
  adds-boots r g n = boots-joined (λ j. add r j (g j)) 0 n (λ j h. boots-step 1 r j (g j))

  link-boots : (k : ℕ) → Boots (link_steps P w k) 1
  unfolding link_steps
  link-boots k =
      let r : ℕ = P.n + k in
      let x = boots-then (boots-step 0 r 0 0) (boots-then (adds-boots r (λ j. at w (link_start P k + j)) r) (boots-step 2 r r k)) in
      record { whole = x.whole; count = x.count ∙ omega arith }

  product-boots : (i : ℕ) → Boots (product_steps P d β i) 2
  unfolding product_steps
  product-boots i =
      let l : ℕ = variables P in
      let x =
      boots-then (boots-step 0 l 0 0) (boots-then (adds-boots l (λ j. at β (i * l + j)) l)
      (boots-then (boots-step 0 (l + 1) 0 0) (boots-then (adds-boots (l + 1) (λ j. at d (i * l + j)) l)
      (boots-then (boots-step 0 (l + 2) 0 0) (boots-then (boots-step 1 (l + 2) l 1) (boots-then (boots-step 1 (l + 2) (l + 1) 1)
      (boots-then (boots-step 0 (l + 3) 0 0) (boots-then (boots-step 1 (l + 3) l 1) (boots-then (boots-step 1 (l + 3) (l + 1) (P.p - 1))
      (boots-then (boots-step 2 (l + 2) (l + 2) P.m) (boots-then (boots-step 2 (l + 3) (l + 3) (P.m + 1))
      (boots-then (boots-step 1 (l + 4) (l + 2) 1) (boots-step 1 (l + 4) (l + 3) 1))))))))))))) in
      record { whole = x.whole; count = x.count ∙ omega arith }

  pub layout-bootstraps : bootstraps (layout P w d β) ≡ P.m + 2 * P.t
  unfolding layout
  layout-bootstraps =
      (boots-then
      (boots-joined (link_steps P w) 1 P.m (λ k h. link-boots k))
      (boots-then (boots-step 0 (variables P + 4) 0 0)
      (boots-then (boots-joined (product_steps P d β) 2 P.t (λ i h. product-boots i))
      (adds-boots (variables P + 4) (λ j. at β (P.t * variables P + j)) (variables P))))).count
      ∙ omega arith

-- well-formedness: the conditions of cause 11, kind by kind
module _ (P : Plan) where
  good-clear : (r : ℕ) → r ≤ last_register P → Good P (clear r)
  unfolding good_step
  good-clear r h = good-step P 0 r 0 0 (rw (le-leb r (last_register P) h, le-leb 0 (last_register P) (omega arith)))

  good-add : (r s b : ℕ) → r ≤ last_register P → s ≤ last_register P → b < P.p → Good P (add r s b)
  unfolding good_step
  good-add r s b hr hs hb = good-step P 1 r s b (rw (le-leb r (last_register P) hr, le-leb s (last_register P) hs, lt-ltb b P.p hb))

  good-boot : (r k : ℕ) → r ≤ last_register P → k ≤ P.m + 1 → Good P (boot r k)
  unfolding good_step
  good-boot r k hr hk = good-step P 2 r r k (rw (le-leb r (last_register P) hr, le-leb k (P.m + 1) hk))

  good-adds : (r : ℕ) (g : ℕ → ℕ) (n : ℕ) → r ≤ last_register P → n ≤ last_register P → ((j : ℕ) → g j < P.p) → Good P (adds r g n)
  unfolding adds
  good-adds r g n hr hn hg = good-joined P (λ j. add r j (g j)) n (λ j h. good-add r j (g j) hr (omega arith) (hg j))

  module _ (w d β : List ℕ) (within : Within P) (residues-w : Residues P.p w) (residues-d : Residues P.p d) (residues-β : Residues P.p β) where
    good-link : (k : ℕ) → k < P.m → Good P (link_steps P w k)
    unfolding link_steps
    good-link k h =
        good-then P (good-clear (P.n + k) (omega arith))
        (good-then P (good-adds (P.n + k) (λ j. at w (link_start P k + j)) (P.n + k) (omega arith) (omega arith) (λ j. residues-w (link_start P k + j)))
        (good-boot (P.n + k) k (omega arith) (omega arith)))

    good-product : (i : ℕ) → Good P (product_steps P d β i)
    unfolding product_steps
    good-product i =
        let l : ℕ = variables P in
        let low : 3 ≤ P.p = prime-low within in
        good-then P (good-clear l (omega arith))
        (good-then P (good-adds l (λ j. at β (i * l + j)) l (omega arith) (omega arith) (λ j. residues-β (i * l + j)))
        (good-then P (good-clear (l + 1) (omega arith))
        (good-then P (good-adds (l + 1) (λ j. at d (i * l + j)) l (omega arith) (omega arith) (λ j. residues-d (i * l + j)))
        (good-then P (good-clear (l + 2) (omega arith))
        (good-then P (good-add (l + 2) l 1 (omega arith) (omega arith) (omega arith))
        (good-then P (good-add (l + 2) (l + 1) 1 (omega arith) (omega arith) (omega arith))
        (good-then P (good-clear (l + 3) (omega arith))
        (good-then P (good-add (l + 3) l 1 (omega arith) (omega arith) (omega arith))
        (good-then P (good-add (l + 3) (l + 1) (P.p - 1) (omega arith) (omega arith) (omega arith))
        (good-then P (good-boot (l + 2) P.m (omega arith) (omega arith))
        (good-then P (good-boot (l + 3) (P.m + 1) (omega arith) (omega arith))
        (good-then P (good-add (l + 4) (l + 2) 1 (omega arith) (omega arith) (omega arith))
        (good-add (l + 4) (l + 3) 1 (omega arith) (omega arith) (omega arith))))))))))))))

    pub layout-well_formed : well_formed P (layout P w d β) ≡ true
    unfolding layout
    layout-well_formed =
        good-well_formed P
        (good-then P (good-joined P (link_steps P w) P.m good-link)
        (good-then P (good-clear (variables P + 4) (le_refl (variables P + 4)))
        (good-then P (good-joined P (product_steps P d β) P.t (λ i h. good-product i))
        (good-adds (variables P + 4) (λ j. at β (P.t * variables P + j)) (variables P) (le_refl (variables P + 4)) (omega arith) (λ j. residues-β (P.t * variables P + j))))))

-- 2mn + m² is L² - n², and t(2L + 12) is at most 2C - 2L + 12t; with more than 15 products there are at most 60 variables
pub step-limit : (P : Plan) → Within P → step_count P ≤ 4307
unfolding step_count
step-limit P within =
    let L : ℕ = P.n + P.m in
    let some : 1 * 1 ≤ P.n * P.n = mul-le-mul within.digit-count within.digit-count in
    elim (dec_lt P.t 16) [
      | yes few ↦
          let square : L * L ≤ 64 * 64 = mul-le-mul within.variable-limit within.variable-limit in
          omega (arith, square, some, few, one_less P.m, within.column-limit, within.variable-limit, within.digit-count)
      | no many ↦
          let wide : 17 * L ≤ (P.t + 1) * L = mul-le-mul_right L (omega arith) in
          let narrow : L ≤ 60 = omega (arith, wide, within.column-limit) in
          let square : L * L ≤ 60 * 60 = mul-le-mul narrow narrow in
          omega (arith, square, narrow, some, one_less P.m, within.column-limit, within.products-limit, within.digit-count)
    ]
