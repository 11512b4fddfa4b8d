-- A relation among the columns: numbers γ whose products with the coefficients of every equation filed sum to 0 modulo p. Then the store's rows
-- obey it too, and the column of the last that is not 0 has no pivot.
--     level C e                the equation e with 0 for its right-hand side
--     Obeys p C γ e            the coefficients of e times γ, summed, are 0 modulo p
--     obeys-after              what the rows of a store and an equation obey, the rows after filing it obey
--     relation-ends            a column at which a relation ends with a 1 has no pivot
-- A pivot's row is zero left of its column, and the relation is zero right of it: their product would be the pivot's 1.
-- Assumes nothing.
use mathlib.Core.Path.{◌≡◌, sym, ap, ◌∙◌}
use mathlib.Core.Bool.{cond}
use mathlib.Core.Logic.{⊎_elim}
use Prim.Native.Nat.{ℕ, ◌+◌, ◌*◌, ◌%◌, ◌<◌}
use native.Mathlib.Nat.{le_refl, le_of_lt, zero-mul, mul-zero}
use native.Mathlib.Decide.{dec_lt}
use native.Mathlib.Omega.{arith}
use lib.Dec.{ltb}
use borrow.Author.Tests.{lt-ltb, le-ltb}
use Rattle.lists.specs.Places.{sum}
use Rattle.lists.proofs.Sums.{sum-ext, sum-none, sum-only}
use Rattle.field.proofs.Modular.{cong-residue}
use Rattle.store.specs.Elimination.{Satisfies, Pivot, Reduced, after}
use Rattle.store.specs.Span.{Combined, with_row}
use Rattle.laws.proofs.Spans.{combined-satisfies}
use Rattle.laws.proofs.FilingSpans.{after-combined}

unfoldable pub level : ℕ → (ℕ → ℕ) → ℕ → ℕ
level C e j = cond (ltb j C) (e j) 0

pub level-below : (C : ℕ) (e : ℕ → ℕ) (j : ℕ) → j < C → level C e j ≡ e j
unfolding level
level-below C e j l = rw (lt-ltb j C l)

pub level-last : (C : ℕ) (e : ℕ → ℕ) → level C e C ≡ 0
unfolding level
level-last C e = rw (le-ltb C C (le_refl C))

abbrev pub Obeys : ℕ → ℕ → (ℕ → ℕ) → (ℕ → ℕ) → Type 0
Obeys p C γ e = Satisfies p C (level C e) γ

-- what is a sum of multiples stays one with the right-hand sides left out
level-combined : (p C : ℕ) (A : ℕ → ℕ → ℕ) (n : ℕ) (e : ℕ → ℕ) → Combined p C A n e → Combined p C (λ q. level C (A q)) n (level C e)
level-combined p C A n e c =
    record {
      by = c.by;
      sums = λ j l. elim (dec_lt j C) [
        | yes k ↦
            ap (λ (m : ℕ). m % p) (level-below C e j k) ∙ c.sums j l
            ∙ ap (λ (m : ℕ). m % p)
            (sum-ext (λ q. c.by q * A q j) (λ q. c.by q * level C (A q) j) n (λ q i. ap (λ (m : ℕ). c.by q * m) (sym (level-below C (A q) j k))))
        | no k ↦
            let last : j ≡ C = omega arith in
            rw last
            (ap (λ (m : ℕ). m % p)
            (level-last C e ∙ sym (sum-none (λ q. c.by q * level C (A q) C) n (λ q i. ap (λ (m : ℕ). c.by q * m) (level-last C (A q)) ∙ mul-zero (c.by q)))))
      ];
    }

pub obeys-after : (p C : ℕ) (γ : ℕ → ℕ) (S : ℕ → ℕ → ℕ) (e : ℕ → ℕ) → ((q : ℕ) → q < C → Obeys p C γ (S q)) → Obeys p C γ e
    → (q : ℕ) → q < C → Obeys p C γ (after p C S e q)
obeys-after p C γ S e rows new q l =
    combined-satisfies p C (λ r. level C (with_row C S e r)) (C + 1) (level C (after p C S e q))
    (level-combined p C (with_row C S e) (C + 1) (after p C S e q) (after-combined p C S e q l)) γ
    (λ r k. elim (dec_lt r C) [
      | yes i ↦ rw (lt-ltb r C i) (rows r i)
      | no i ↦ rw (le-ltb r C (omega arith)) new
    ])

pub relation-ends : (p C : ℕ) (γ : ℕ → ℕ) (S : ℕ → ℕ → ℕ) (c : ℕ) → 1 < p → Reduced p C S → c < C → Obeys p C γ (S c)
    → γ c ≡ 1 → ((j : ℕ) → j < C → c < j → γ j ≡ 0) → S c c ≡ 0
relation-ends p C γ S c high red l obeys one none = ⊎_elim (λ z. z c (le_of_lt l)) (λ v. absurd (clash v)) (red.rows c l)
  where
    clash : Pivot C S c → ⊥
    clash v =
        let product : sum (λ j. level C (S c) j * γ j) C ≡ 1 =
        sum-only (λ j. level C (S c) j * γ j) C c l (λ j k d. elim (dec_lt j c) [
          | yes i ↦ ap (λ (m : ℕ). m * γ j) (level-below C (S c) j k ∙ v.left j i) ∙ zero-mul (γ j)
          | no i ↦ ap (λ (m : ℕ). level C (S c) j * m) (none j k (omega arith)) ∙ mul-zero (level C (S c) j)
        ])
        ∙ rw (level-below C (S c) c l, v.one, one) in
        let pos : 0 < p = omega arith in
        let equal : ◌≡◌ {A = ℕ} 1 0 =
        cong-residue p high pos (ap (λ (m : ℕ). m % p) (sym product) ∙ obeys ∙ ap (λ (m : ℕ). m % p) (level-last C (S c))) in
        omega (arith, equal)
