-- A filing that is no contradiction leaves rows with the same span as the old rows and the equation.
--     residual-combined        the residual is a sum of multiples of the old rows and the equation
--     normal-combined          so is the residual made normal
--     old-combined             so is each old row
--     resolved-combined        so is each row that a filing leaves, whatever it answers: `after-combined`
--     after-span               the theorem
-- The rows that a filing leaves are made as such sums. The other way round, every solution of the store that is left satisfies the old rows
-- and the equation, and that store is reduced: so those are sums of multiples of its rows (`implied-combined`).
-- Assumes nothing.
use mathlib.Core.Path.{◌≡◌, ap, ◌∙◌}
use mathlib.Core.Bool.{true, cond}
use mathlib.Core.Logic.{◌≢◌}
use Prim.Native.Nat.{ℕ, ◌+◌, ◌-◌, ◌*◌, ◌%◌, ◌<◌}
use native.Mathlib.Nat.{mod-mod, one-mul, le_refl}
use native.Mathlib.Decide.{dec_lt, ℕ_discrete}
use native.Mathlib.Omega.{arith}
use lib.Dec.{ltb}
use borrow.Author.Tests.{lt-ltb, le-ltb}
use Rattle.lists.specs.Places.{sum, at}
use Rattle.lists.proofs.Sums.{sum-next, sum-ext}
use Rattle.field.specs.Primes.{odd_prime}
use Rattle.field.specs.Residues.{inverse}
use Rattle.store.specs.Elimination.{Satisfies, Solves, Reduced, Outcome, contradiction, residual, normal, inserted, outcome, after}
use Rattle.store.specs.Span.{Combined, SameSpan, with_row}
use Rattle.store.proofs.Inserting.{inserted-here, inserted-there}
use Rattle.store.proofs.Answers.{Resolved, resolved-new, resolved-implied, resolved-contradiction, resolves}
use Rattle.store.proofs.Filing.{Equation, after-reduced, after-solves}
use Rattle.laws.proofs.Spans.{combined-row, combined-cong, combined-mul, combined-add, implied-combined}

module _ (p C : ℕ) (S : ℕ → ℕ → ℕ) (e : ℕ → ℕ) where
  residual-combined : Combined p C (with_row C S e) (C + 1) (residual p C S e)
  unfolding residual
  residual-combined =
      record {
        by = λ q. cond (ltb q C) (p - e q) 1;
        sums = λ j k. mod-mod (e j + sum (λ q. (p - e q) * S q j) C) p ∙ ap (λ (m : ℕ). m % p) (rows j);
      }
    where
      rows : (j : ℕ) → e j + sum (λ q. (p - e q) * S q j) C ≡ sum (λ q. cond (ltb q C) (p - e q) 1 * with_row C S e q j) (C + 1)
      rows j =
          let last : cond (ltb C C) (p - e C) 1 * with_row C S e C j ≡ e j = rw (le-ltb C C (le_refl C)) (one-mul (e j)) in
          omega (
            arith,
            sum-next (λ q. cond (ltb q C) (p - e q) 1 * with_row C S e q j) C,
            sum-ext (λ q. cond (ltb q C) (p - e q) 1 * with_row C S e q j) (λ q. (p - e q) * S q j) C (λ q l. rw (lt-ltb q C l)),
          )

  old-combined : (q : ℕ) → q < C → Combined p C (with_row C S e) (C + 1) (S q)
  old-combined q l = rw (lt-ltb q C l) at (combined-row p C (with_row C S e) (C + 1) q (omega arith))

  normal-combined : (c : ℕ) → Combined p C (with_row C S e) (C + 1) (normal p (residual p C S e) c)
  unfolding normal
  normal-combined c =
      combined-cong p C (with_row C S e) (C + 1) (λ j. inverse p (R c) * R j) (normal p R c) (λ j l. mod-mod (inverse p (R c) * R j) p)
      (combined-mul p C (with_row C S e) (C + 1) (inverse p (R c)) R residual-combined)
    where
      R : ℕ → ℕ
      R = residual p C S e

  resolved-combined : {o : Outcome} {T : ℕ → ℕ → ℕ} → Resolved p C S e o T → (q : ℕ) → q < C → Combined p C (with_row C S e) (C + 1) (T q)
  resolved-combined (resolved-new c l b d) q k = elim (ℕ_discrete q c) [
    | yes i ↦ combined-cong p C W (C + 1) N (inserted p S N c q) (λ j m. ap (λ (x : ℕ). x % p) (inserted-here p S N c q j i)) (normal-combined c)
    | no i ↦
        combined-cong p C W (C + 1) (λ j. S q j + (p - S q c) * N j) (inserted p S N c q)
        (λ j m. ap (λ (x : ℕ). x % p) (inserted-there p S N c q j i) ∙ mod-mod (S q j + (p - S q c) * N j) p)
        (combined-add p C W (C + 1) (S q) (λ j. (p - S q c) * N j) (old-combined q k) (combined-mul p C W (C + 1) (p - S q c) N (normal-combined c)))
  ]
    where
      W : ℕ → ℕ → ℕ
      W = with_row C S e

      N : ℕ → ℕ
      N = normal p (residual p C S e) c
  resolved-combined (resolved-implied z) q k = old-combined q k
  resolved-combined (resolved-contradiction z d) q k = old-combined q k

pub after-combined : (p C : ℕ) (S : ℕ → ℕ → ℕ) (e : ℕ → ℕ) (q : ℕ) → q < C → Combined p C (with_row C S e) (C + 1) (after p C S e q)
after-combined p C S e = resolved-combined p C S e (resolves p C S e)

pub after-span : (p C : ℕ) → odd_prime p ≡ true → (S : ℕ → ℕ → ℕ) (e : ℕ → ℕ) → Reduced p C S → Equation p C e → outcome p C S e ≢ contradiction
    → SameSpan p C (after p C S e) C (with_row C S e) (C + 1)
after-span p C prime S e red eqn kept = (
  after-combined p C S e,
  (λ q l. elim (dec_lt q C) [
    | yes k ↦
        rw (lt-ltb q C k)
        (implied-combined p C prime T (S q) reduced (λ j i. red.residues q j k i) (λ β n r s. (solves (at β) s).0 q k))
    | no k ↦
        rw (le-ltb q C (omega arith))
        (implied-combined p C prime T e reduced eqn (λ β n r s. (solves (at β) s).1))
  ]),
)
  where
    T : ℕ → ℕ → ℕ
    T = after p C S e

    reduced : Reduced p C T
    reduced = after-reduced p C prime S e red eqn

    solves : (β : ℕ → ℕ) → Solves p C T β → Solves p C S β × Satisfies p C e β
    solves β = (after-solves p C prime S e red eqn kept β).0
