-- Demand 2: the written program, run on the digits of an entry, yields the right-hand side of Equation 1 modulo p.
-- After link k the registers are the chain of variables with its next link (`goes-link`, `goes-links`). A product leaves the variables as
-- they are and adds to y the product of its two weighted sums (`goes-product`), by the identity of the two square tables. The last block
-- adds its weighted sum (`goes-rest`), so that y holds the equation's right-hand side.
--     demand2           for each entry
--     table-link, table-square, table-minus       the three kinds of tables
--     digits-length     an entry has n digits
-- Assumes nothing.
use mathlib.Core.Path.{◌≡◌, refl, sym, ap, ap₂, fun_ext, subst, ◌∙◌}
use mathlib.Core.List.{List, [], ◌∷◌, ◌++◌}
use Prim.Native.Nat.{ℕ, suc, ◌+◌, ◌-◌, ◌*◌, ◌%◌, ◌<◌}
use native.Mathlib.Decide.{ℕ_discrete, dec_lt}
use native.Mathlib.Nat.{one-mul, mod-lt, mod-mod, mod-eq_of_lt, mod-add-mod, le_refl}
use native.Mathlib.Omega.{arith}
use lib.ListN.{length, length-append, get_or-append}
use lib.Seq.{get_or-append_seam}
use borrow.Author.Tests.{eq-eqb, ne_eqb, lt-ltb, le-ltb}
use Rattle.lists.specs.Places.{sum, joined, at}
use Rattle.lists.proofs.Sums.{sum-zero, sum-suc, sum-ext}
use Rattle.lists.proofs.Tabs.{tab-length}
use Rattle.lists.proofs.Parts.{at-past}
use Rattle.field.specs.Residues.{square, minus_square}
use Rattle.field.proofs.Modular.{cong-add, cong-mul}
use Rattle.field.proofs.Products.{product}
use Rattle.plan.specs.Numbers.{variables, Within}
use Rattle.plan.specs.Parts.{Given, link_start}
use Rattle.plan.specs.Rows.{digit, digits, link, chain, values}
use Rattle.plan.specs.Equation.{equation1}
use Rattle.plan.specs.declared.numbers.Plan.{Plan}
use Rattle.plan.proofs.Bounds.{prime-low}
use Rattle.plan.proofs.Chains.{chain_length, values_length}
use Rattle.program.specs.Steps.{table_at, Registers, assigned, output}
use Rattle.program.specs.Layout.{clear, adds, link_steps, product_steps, layout}
use Rattle.program.proofs.Pieces.{Goes, goes_then, goes_to, goes-joined, goes-registers}
use Rattle.program.proofs.Effects.{assigned-same, assigned-other, assigned-twice, goes-clear, goes_add, goes-boot, goes-adds, goes-sum, goes-pair}

pub digits-length : (G : Given) (i : ℕ) → length (digits G i) ≡ G.numbers.n
digits-length G i = tab-length G.numbers.n (digit G.radices i)

-- the three kinds of tables
pub table-link : (P : Plan) (T : List ℕ) (k z : ℕ) → k < P.m → table_at P T k z ≡ at T (k * P.p + z)
unfolding table_at
table-link P T k z h = rw (lt-ltb k P.m h)

pub table-square : (P : Plan) (T : List ℕ) (k z : ℕ) → k ≡ P.m → table_at P T k z ≡ square P.p z
unfolding table_at
table-square P T k z h = rw (le-ltb k P.m (omega arith), eq-eqb k P.m h)

pub table-minus : (P : Plan) (T : List ℕ) (k z : ℕ) → P.m < k → table_at P T k z ≡ minus_square P.p z
unfolding table_at
table-minus P T k z h = rw (le-ltb k P.m (omega arith), ne_eqb k P.m (λ e. omega arith))

-- a register behind a list of registers
assigned-behind : (xs : List ℕ) (r v : ℕ) → r ≡ length xs → assigned (at xs) r v ≡ at (xs ++ (v ∷ []))
assigned-behind xs r v e = fun_ext (λ k. elim (ℕ_discrete k r) [
  | yes same ↦
      ap (assigned (at xs) r v) same ∙ assigned-same (at xs) r v
      ∙ sym (ap (at (xs ++ (v ∷ []))) (same ∙ e) ∙ get_or-append_seam xs v [] 0)
  | no other ↦ assigned-other (at xs) r v k other ∙ elim (dec_lt k (length xs)) [
    | yes l ↦ sym (get_or-append xs (v ∷ []) 0 k l)
    | no l ↦
        at-past xs k (omega arith)
        ∙ sym (at-past (xs ++ (v ∷ [])) k (rw length-append (omega arith)))
  ]
])

-- two tables' values added to a sum
added : (p s l r x z : ℕ) → (x + z) % p ≡ (l % p * (r % p)) % p → ((s % p + x) % p + z) % p ≡ (s + l * r) % p
added p s l r x z e =
    mod-add-mod (s % p + x) p z
    ∙ ap (λ (n : ℕ). n % p) (omega arith)
    ∙ cong-add p (s % p) s (x + z) (l * r) (mod-mod s p) (e ∙ cong-mul p (l % p) l (r % p) r (mod-mod l p) (mod-mod r p))

module _ (G : Given) (β : List ℕ) (within : Within G.numbers) where
  abbrev P : Plan
  P = G.numbers

  abbrev w : List ℕ
  w = G.weights

  abbrev T : List ℕ
  T = G.tables

  abbrev d : List ℕ
  d = G.products

  positive : 0 < P.p
  positive = omega (arith, prime-low within)

  goes-link : (xs : List ℕ) (k : ℕ) → k < P.m → length xs ≡ P.n + k → Goes P T (link_steps P w k) (at xs) (at (xs ++ (link P w T xs k ∷ [])))
  unfolding link_steps link
  goes-link xs k h e =
      goes_to P T
      (goes_then P T (goes-sum P T (at xs) (P.n + k) (λ j. at w (link_start P k + j)) (P.n + k) (le_refl (P.n + k)) positive)
      (goes-boot P T (assigned (at xs) (P.n + k) total) (P.n + k) k))
      (assigned-twice (at xs) (P.n + k) total _
      ∙ ap (assigned (at xs) (P.n + k)) (ap (table_at P T k) (assigned-same (at xs) (P.n + k) total) ∙ table-link P T k total h)
      ∙ assigned-behind xs (P.n + k) (at T (k * P.p + total)) (sym e))
    where
      total : ℕ
      total = sum (λ j. at w (link_start P k + j) * at xs j) (P.n + k) % P.p

  module _ (i : ℕ) where
    goes-links : (h : Registers) × Goes P T (joined (link_steps P w) P.m) (at (chain G i 0)) h × (h ≡ at (values G i))
    unfolding values chain
    goes-links =
        goes-joined P T (link_steps P w) (λ k g. g ≡ at (chain G i k)) P.m (at (chain G i 0)) refl
        (λ k g l e. (
          at (chain G i (suc k)),
          subst (λ (f : Registers). Goes P T (link_steps P w k) f (at (chain G i (suc k)))) (sym e) (goes-link (chain G i k) k l (chain_length G i k)),
          refl,
        ))

  module _ (xs : List ℕ) (same : length xs ≡ variables P) where
    l : ℕ
    l = variables P

    left : ℕ → ℕ
    left k = sum (λ j. at β (k * variables P + j) * at xs j) (variables P)

    right : ℕ → ℕ
    right k = sum (λ j. at d (k * variables P + j) * at xs j) (variables P)

    -- the variables in their registers, and in y the first k products
    record State (k : ℕ) (f : Registers) : Type 0 where
      pub held : (j : ℕ) → j < variables P → f j ≡ at xs j
      pub total : f (variables P + 4) ≡ sum (λ i. left i * right i) k % P.p

    weighted : (f : Registers) (ws : List ℕ) (k : ℕ) → ((j : ℕ) → j < variables P → f j ≡ at xs j)
        → sum (λ j. at ws (k * variables P + j) * f j) (variables P) ≡ sum (λ j. at ws (k * variables P + j) * at xs j) (variables P)
    weighted f ws k held =
        sum-ext (λ j. at ws (k * variables P + j) * f j) (λ j. at ws (k * variables P + j) * at xs j) (variables P)
        (λ j h. ap (λ (z : ℕ). at ws (k * variables P + j) * z) (held j h))

    goes-product : (k : ℕ) (f : Registers) → State k f → (h : Registers) × Goes P T (product_steps P d β k) f h × State (suc k) h
    unfolding product_steps l left right
    goes-product k f state = (
      g8,
      goes_then P T (goes-sum P T f l (λ j. at β (k * l + j)) l (le_refl l) positive)
          (goes_then P T (goes-sum P T g1 (l + 1) (λ j. at d (k * l + j)) l (omega arith) positive)
          (goes_then P T (goes-pair P T g2 (l + 2) l (l + 1) 1 (λ e. omega arith) (λ e. omega arith))
          (goes_then P T (goes-pair P T g3 (l + 3) l (l + 1) (P.p - 1) (λ e. omega arith) (λ e. omega arith))
          (goes_then P T (goes-boot P T g4 (l + 2) P.m)
          (goes_then P T (goes-boot P T g5 (l + 3) (P.m + 1))
          (goes_then P T (goes_add P T g6 (l + 4) (l + 2) 1)
          (goes_add P T g7 (l + 4) (l + 3) 1))))))),
      record { held = λ j h. kept8 j h ∙ state.held j h; total = at_y },
    )
      where
        g1 : Registers
        g1 = assigned f l (sum (λ j. at β (k * l + j) * f j) l % P.p)

        g2 : Registers
        g2 = assigned g1 (l + 1) (sum (λ j. at d (k * l + j) * g1 j) l % P.p)

        g3 : Registers
        g3 = assigned g2 (l + 2) ((g2 l + 1 * g2 (l + 1)) % P.p)

        g4 : Registers
        g4 = assigned g3 (l + 3) ((g3 l + (P.p - 1) * g3 (l + 1)) % P.p)

        g5 : Registers
        g5 = assigned g4 (l + 2) (table_at P T P.m (g4 (l + 2)))

        g6 : Registers
        g6 = assigned g5 (l + 3) (table_at P T (P.m + 1) (g5 (l + 3)))

        g7 : Registers
        g7 = assigned g6 (l + 4) ((g6 (l + 4) + 1 * g6 (l + 2)) % P.p)

        g8 : Registers
        g8 = assigned g7 (l + 4) ((g7 (l + 4) + 1 * g7 (l + 3)) % P.p)

        kept1 : (j : ℕ) → j < l → g1 j ≡ f j
        kept1 j h = assigned-other f l _ j (λ e. omega arith)

        kept8 : (j : ℕ) → j < l → g8 j ≡ f j
        kept8 j h =
            assigned-other g7 (l + 4) _ j (λ e. omega arith)
            ∙ assigned-other g6 (l + 4) _ j (λ e. omega arith)
            ∙ assigned-other g5 (l + 3) _ j (λ e. omega arith)
            ∙ assigned-other g4 (l + 2) _ j (λ e. omega arith)
            ∙ assigned-other g3 (l + 3) _ j (λ e. omega arith)
            ∙ assigned-other g2 (l + 2) _ j (λ e. omega arith)
            ∙ assigned-other g1 (l + 1) _ j (λ e. omega arith)
            ∙ kept1 j h

        u : ℕ
        u = left k % P.p

        v : ℕ
        v = right k % P.p

        at-u : g2 l ≡ u
        at-u =
            assigned-other g1 (l + 1) _ l (λ e. omega arith) ∙ assigned-same f l _
            ∙ ap (λ (z : ℕ). z % P.p) (weighted f β k state.held)

        at-v : g2 (l + 1) ≡ v
        at-v = assigned-same g1 (l + 1) _ ∙ ap (λ (z : ℕ). z % P.p) (weighted g1 d k (λ j h. kept1 j h ∙ state.held j h))

        at_a : g4 (l + 2) ≡ (u + v) % P.p
        at_a =
            assigned-other g3 (l + 3) _ (l + 2) (λ e. omega arith) ∙ assigned-same g2 (l + 2) _
            ∙ ap₂ (λ (x z : ℕ). (x + z) % P.p) at-u (one-mul (g2 (l + 1)) ∙ at-v)

        at_b : g5 (l + 3) ≡ (u + (P.p - 1) * v) % P.p
        at_b =
            assigned-other g4 (l + 2) _ (l + 3) (λ e. omega arith) ∙ assigned-same g3 (l + 3) _
            ∙ ap₂ (λ (x z : ℕ). (x + (P.p - 1) * z) % P.p)
            (assigned-other g2 (l + 2) _ l (λ e. omega arith) ∙ at-u)
            (assigned-other g2 (l + 2) _ (l + 1) (λ e. omega arith) ∙ at-v)

        squared : g6 (l + 2) ≡ square P.p ((u + v) % P.p)
        squared =
            assigned-other g5 (l + 3) _ (l + 2) (λ e. omega arith) ∙ assigned-same g4 (l + 2) _
            ∙ table-square P T P.m (g4 (l + 2)) refl ∙ ap (square P.p) at_a

        minus : g7 (l + 3) ≡ minus_square P.p ((u + (P.p - 1) * v) % P.p)
        minus =
            assigned-other g6 (l + 4) _ (l + 3) (λ e. omega arith) ∙ assigned-same g5 (l + 3) _
            ∙ table-minus P T (P.m + 1) (g5 (l + 3)) (omega arith) ∙ ap (minus_square P.p) at_b

        before : g6 (l + 4) ≡ sum (λ i. left i * right i) k % P.p
        before =
            assigned-other g5 (l + 3) _ (l + 4) (λ e. omega arith)
            ∙ assigned-other g4 (l + 2) _ (l + 4) (λ e. omega arith)
            ∙ assigned-other g3 (l + 3) _ (l + 4) (λ e. omega arith)
            ∙ assigned-other g2 (l + 2) _ (l + 4) (λ e. omega arith)
            ∙ assigned-other g1 (l + 1) _ (l + 4) (λ e. omega arith)
            ∙ assigned-other f l _ (l + 4) (λ e. omega arith)
            ∙ state.total

        at_y : g8 (l + 4) ≡ sum (λ i. left i * right i) (suc k) % P.p
        at_y =
            assigned-same g7 (l + 4) _
            ∙ ap₂ (λ (x z : ℕ). (x + z) % P.p)
            (assigned-same g6 (l + 4) _ ∙ ap₂ (λ (x z : ℕ). (x + z) % P.p) before (one-mul (g6 (l + 2)) ∙ squared))
            (one-mul (g7 (l + 3)) ∙ minus)
            ∙ added P.p (sum (λ i. left i * right i) k) (left k) (right k) (square P.p ((u + v) % P.p)) (minus_square P.p ((u + (P.p - 1) * v) % P.p))
            (product P.p u v within.prime)
            ∙ ap (λ (z : ℕ). z % P.p) (sym (sum-suc (λ i. left i * right i) k))

    goes-products : (f : Registers) → State 0 f → (h : Registers) × Goes P T (joined (product_steps P d β) P.t) f h × State P.t h
    goes-products f s = goes-joined P T (product_steps P d β) State P.t f s (λ k g h. goes-product k g)

    -- all behind the links: y cleared, the products and the last block
    goes-rest : (h : Registers) × Goes P T (clear (variables P + 4) ++ (joined (product_steps P d β) P.t ++ adds (variables P + 4) (λ j. at β (P.t * variables P + j)) (variables P))) (at xs) h
        × (h (variables P + 4) ≡ equation1 P d β xs % P.p)
    unfolding equation1 left right
    goes-rest =
        let start : Registers = assigned (at xs) (variables P + 4) 0 in
        let first : State 0 start = record {
          held = λ j h. assigned-other (at xs) (variables P + 4) 0 j (λ e. omega arith);
          total = assigned-same (at xs) (variables P + 4) 0 ∙ sym (ap (λ (z : ℕ). z % P.p) (sum-zero (λ i. left i * right i)) ∙ mod-eq_of_lt positive);
        } in
        let r = goes-products start first in
        let small : r.0 (variables P + 4) < P.p = rw r.2.total (mod-lt _ positive) in (
          assigned r.0 (variables P + 4) ((r.0 (variables P + 4) + sum (λ j. at β (P.t * variables P + j) * r.0 j) (variables P)) % P.p),
          goes_then P T (goes-clear P T (at xs) (variables P + 4))
              (goes_then P T r.1 (goes-adds P T r.0 (variables P + 4) (λ j. at β (P.t * variables P + j)) (variables P) (omega arith) small)),
          assigned-same r.0 (variables P + 4) _
              ∙ ap₂ (λ (x z : ℕ). (x + z) % P.p) r.2.total (weighted r.0 β P.t r.2.held)
              ∙ mod-add-mod _ P.p _,
        )

  -- for the digits of an entry
  pub demand2 : (i : ℕ) → output G.numbers G.tables (layout G.numbers G.weights G.products β) (digits G i) ≡ equation1 G.numbers G.products β (values G i) % G.numbers.p
  unfolding output layout chain
  demand2 i =
      let first = goes-links i in
      let rest = goes-rest (values G i) (values_length G i) in
      let whole = goes_then P T (goes_to P T first.1 first.2) rest.1 in
      ap (λ (f : Registers). f (variables P + 4)) (goes-registers P T (digits G i) whole) ∙ rest.2
