-- The d rows, filed one after the other into a store of L columns of their own, each read from its end: a row of that store is a sum of multiples
-- of d rows that ends where its pivot stands.
--     mirrored P d b j        d row b from its last weight to its first, then 0
--     filed_rows P d b        the store after the first b of them
--     DStore, d_store         it is reduced, its rows are sums of multiples of the first b d rows, with 0 for a right-hand side
--     Next, next              d row b is new to it, which makes one pivot more; or it is a sum of multiples of those before, and nothing changes
-- Assumes nothing.
use mathlib.Core.Path.{◌≡◌, sym, ap, ◌∙◌}
use mathlib.Core.Bool.{true, cond}
use mathlib.Core.List.{List}
use Prim.Native.Nat.{ℕ, zero, suc, ◌+◌, ◌-◌, ◌*◌, ◌%◌, ◌<◌}
use native.Mathlib.Nat.{le_refl, le_of_lt, mul-zero, mod-eq_of_lt, add-zero}
use native.Mathlib.Decide.{dec_lt}
use native.Mathlib.Omega.{arith}
use lib.Dec.{ltb}
use borrow.Author.Tests.{lt-ltb, le-ltb}
use Rattle.lists.specs.Places.{at}
use Rattle.lists.proofs.Sums.{sum-none, sum-zero}
use Rattle.field.specs.Primes.{odd_prime}
use Rattle.field.specs.Residues.{Residues}
use Rattle.field.proofs.Modular.{cong-residue}
use Rattle.plan.specs.declared.numbers.Plan.{Plan}
use Rattle.plan.specs.Numbers.{variables}
use Rattle.store.specs.Elimination.{Reduced, Outcome, residual, after}
use Rattle.store.specs.Filings.{empty}
use Rattle.store.specs.Span.{Combined, with_row}
use Rattle.store.proofs.Answers.{Resolved, resolved-new, resolved-implied, resolved-contradiction, resolves}
use Rattle.store.proofs.Residuals.{residual-none}
use Rattle.store.proofs.Filing.{positive, Equation, after-reduced}
use Rattle.store.proofs.Holding.{empty-reduced}
use Rattle.laws.proofs.Spans.{combined-row, combined-trans, combined-more}
use Rattle.laws.proofs.FilingSpans.{after-combined}
use Rattle.laws.proofs.Pivots.{pivots, newly, pivots-after}

pub mirrored : Plan → List ℕ → ℕ → ℕ → ℕ
mirrored P d b j = cond (ltb j (variables P)) (at d (b * variables P + (variables P - 1 - j))) 0

unfoldable pub filed_rows : Plan → List ℕ → ℕ → ℕ → ℕ → ℕ
filed_rows P d zero = empty
filed_rows P d (suc b) = after P.p (variables P) (filed_rows P d b) (mirrored P d b)

pub mirrored-at : (P : Plan) (d : List ℕ) (b j : ℕ) → j < variables P → mirrored P d b (variables P - 1 - j) ≡ at d (b * variables P + j)
unfolding mirrored
mirrored-at P d b j l =
    let place : variables P - 1 - j < variables P = omega arith in
    let back : variables P - 1 - (variables P - 1 - j) ≡ j = omega arith in
    rw (lt-ltb (variables P - 1 - j) (variables P) place, back)

mirrored-last : (P : Plan) (d : List ℕ) (b : ℕ) → mirrored P d b (variables P) ≡ 0
unfolding mirrored
mirrored-last P d b = rw (le-ltb (variables P) (variables P) (le_refl (variables P)))

pub record DStore (P : Plan) (d : List ℕ) (b : ℕ) : Type 0 where
  pub reduced : Reduced P.p (variables P) (filed_rows P d b)
  pub rows : (q : ℕ) → q < variables P → Combined P.p (variables P) (mirrored P d) b (filed_rows P d b q)

-- what filing d row b does to it
pub data Next (P : Plan) (d : List ℕ) (b : ℕ) : Type 0 where
  fresh : pivots (variables P) (filed_rows P d (suc b)) ≡ pivots (variables P) (filed_rows P d b) + 1 → Next P d b
  stale : pivots (variables P) (filed_rows P d (suc b)) ≡ pivots (variables P) (filed_rows P d b)
      → Combined P.p (variables P) (mirrored P d) b (mirrored P d b) → Next P d b

module _ (P : Plan) (d : List ℕ) (prime : odd_prime P.p ≡ true) (residues : Residues P.p d) where
  mirrored-small : (b : ℕ) → Equation P.p (variables P) (mirrored P d b)
  unfolding mirrored
  mirrored-small b j l = elim (dec_lt j (variables P)) [
    | yes k ↦ rw (lt-ltb j (variables P) k) (residues (b * variables P + (variables P - 1 - j)))
    | no k ↦ rw (le-ltb j (variables P) (omega arith)) (positive P.p prime)
  ]

  pub d_store : (b : ℕ) → DStore P d b
  unfolding filed_rows
  d_store zero = record {
    reduced = empty-reduced P.p (variables P) prime;
    rows = λ q l. record { by = λ _. 0; sums = λ j k. ap (λ (n : ℕ). n % P.p) (sym (sum-zero (λ r. 0 * mirrored P d r j))) };
  }
  d_store (suc b) =
      let s = d_store b in
      let S = filed_rows P d b in
      let e = mirrored P d b in
      record {
        reduced = after-reduced P.p (variables P) prime S e s.reduced (mirrored-small b);
        rows = λ q l.
            combined-trans P.p (variables P) (mirrored P d) (suc b) (with_row (variables P) S e) (variables P + 1) (after P.p (variables P) S e q)
            (λ r k. elim (dec_lt r (variables P)) [
              | yes i ↦ rw (lt-ltb r (variables P) i) (combined-more P.p (variables P) (mirrored P d) b (S r) (s.rows r i))
              | no i ↦ rw (le-ltb r (variables P) (omega arith)) (combined-row P.p (variables P) (mirrored P d) (suc b) b (omega arith))
            ])
            (after-combined P.p (variables P) S e q l);
      }

  -- no row of it has a right-hand side
  right-none : (b q : ℕ) → q < variables P → filed_rows P d b q (variables P) ≡ 0
  right-none b q l =
      let s = d_store b in
      let c = s.rows q l in
      cong-residue P.p (s.reduced.residues q (variables P) l (le_refl (variables P))) (positive P.p prime)
      (c.sums (variables P) (le_refl (variables P))
      ∙ ap (λ (n : ℕ). n % P.p) (sum-none (λ a. c.by a * mirrored P d a (variables P)) b (λ a i. ap (λ (n : ℕ). c.by a * n) (mirrored-last P d a) ∙ mul-zero (c.by a))))

  pub next : (b : ℕ) → Next P d b
  unfolding filed_rows residual
  next b = found (resolves P.p (variables P) S e) (pivots-after P.p (variables P) prime S e (d_store b).reduced (mirrored-small b))
    where
      S : ℕ → ℕ → ℕ
      S = filed_rows P d b

      e : ℕ → ℕ
      e = mirrored P d b

      right : residual P.p (variables P) S e (variables P) ≡ 0
      right =
          rw (mirrored-last P d b, sum-none (λ q. (P.p - e q) * S q (variables P)) (variables P) (λ q l. ap (λ (n : ℕ). (P.p - e q) * n) (right-none b q l) ∙ mul-zero (P.p - e q)))
          (mod-eq_of_lt (positive P.p prime))

      combined : ((j : ℕ) → j < variables P → residual P.p (variables P) S e j ≡ 0) → Combined P.p (variables P) (mirrored P d) b e
      combined z =
          combined-trans P.p (variables P) (mirrored P d) b S (variables P) e (d_store b).rows
          (record {
            by = e;
            sums = λ j l. residual-none P.p (variables P) S e (λ q k. le_of_lt (mirrored-small b q (le_of_lt k))) j
                (elim (dec_lt j (variables P)) [
                  | yes k ↦ z j k
                  | no k ↦ let last : j ≡ variables P = omega arith in rw last right
                ]);
          })

      found : {o : Outcome} {T : ℕ → ℕ → ℕ} → Resolved P.p (variables P) S e o T
          → pivots (variables P) (after P.p (variables P) S e) ≡ pivots (variables P) S + newly o → Next P d b
      found (resolved-new c l k n) h = fresh h
      found (resolved-implied z) h = stale (h ∙ add-zero (pivots (variables P) S)) (combined (λ j l. z j (le_of_lt l)))
      found (resolved-contradiction z n) h = stale (h ∙ add-zero (pivots (variables P) S)) (combined z)
