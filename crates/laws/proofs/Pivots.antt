-- The pivots of a store: each filing that is New makes one more, and no other filing changes how many there are.
--     mark x              1 where x is not 0
--     mark-most           at most 1
--     pivots C S          how many of the C rows are not zero on the diagonal
--     newly o             1 for an answer that is new, else 0
--     pivots-empty        an empty store has none
--     pivots-after        the theorem
--     pivots-most         there are at most C
-- Assumes nothing.
use mathlib.Core.Path.{◌≡◌, refl, sym, ap, ◌∙◌}
use mathlib.Core.Bool.{true, cond}
use mathlib.Core.Logic.{⊎_elim, ◌≢◌}
use Prim.Native.Nat.{ℕ, zero, suc, ◌+◌, ◌-◌, ◌*◌, ◌%◌, ◌≤◌, ◌<◌}
use native.Mathlib.Nat.{le_of_lt, le_step, lt-suc_self, not-suc-le-zero, mod-eq_of_lt, mul-zero, mul-mod_right, add-zero, sub-zero, zero-add}
use native.Mathlib.Decide.{ℕ_discrete}
use native.Mathlib.Omega.{arith}
use lib.Dec.{eqb}
use borrow.Author.Tests.{eq-eqb, ne_eqb}
use Rattle.lists.specs.Places.{sum}
use Rattle.lists.proofs.Sums.{sum-suc, sum-ext, sum-le, sum-none}
use Rattle.field.specs.Primes.{odd_prime}
use Rattle.store.specs.Elimination.{ZeroRow, Pivot, Reduced, Outcome, residual, normal, inserted, outcome, after}
use Rattle.store.specs.Filings.{empty, is_new}
use Rattle.store.proofs.Answers.{Resolved, resolved-new, resolved-implied, resolved-contradiction, resolves}
use Rattle.store.proofs.Inserting.{Fits, inserted-here, inserted-there}
use Rattle.store.proofs.Filing.{Equation, normal-fits}

pub mark : ℕ → ℕ
mark x = cond (eqb x 0) 0 1

pub mark-most : (x : ℕ) → mark x ≤ 1
unfolding mark
mark-most x = elim (ℕ_discrete x 0) [
  | yes z ↦ rw (eq-eqb x 0 z) (omega arith)
  | no d ↦ rw (ne_eqb x 0 d) (omega arith)
]

pub mark-zero : (x : ℕ) → x ≡ 0 → mark x ≡ 0
unfolding mark
mark-zero x z = rw (eq-eqb x 0 z)

unfoldable pub pivots : ℕ → (ℕ → ℕ → ℕ) → ℕ
pivots C S = sum (λ q. mark (S q q)) C

abbrev pub newly : Outcome → ℕ
newly o = cond (is_new o) 1 0

pub pivots-empty : (C : ℕ) → pivots C empty ≡ 0
unfolding pivots mark
pivots-empty C = sum-none (λ q. 0) C (λ q k. refl)

pub pivots-most : (C : ℕ) (S : ℕ → ℕ → ℕ) → pivots C S ≤ C
unfolding pivots
pivots-most C S = omega (arith, sum-le (λ q. mark (S q q)) 1 C (λ q k. mark-most (S q q)))

-- a sum that differs from another at one place, by one
sum_more : (f g : ℕ → ℕ) (n c : ℕ) → c < n → f c ≡ 0 → g c ≡ 1 → ((q : ℕ) → q < n → q ≢ c → f q ≡ g q) → sum g n ≡ sum f n + 1
sum_more f g zero c l z o h = absurd (not-suc-le-zero l)
sum_more f g (suc n) c l z o h = rw (sum-suc f n, sum-suc g n) (elim (ℕ_discrete c n) [
  | yes e ↦
      let same : sum f n ≡ sum g n = sum-ext f g n (λ q k. h q (le_step k) (λ d. omega arith)) in
      omega (arith, same, ap f (sym e), ap g (sym e))
  | no d ↦ omega (arith, sum_more f g n c (omega arith) z o (λ q k. h q (le_step k)), h n (lt-suc_self n) (λ x. d (sym x)))
])

pub pivots-after : (p C : ℕ) → odd_prime p ≡ true → (S : ℕ → ℕ → ℕ) (e : ℕ → ℕ) → Reduced p C S → Equation p C e
    → pivots C (after p C S e) ≡ pivots C S + newly (outcome p C S e)
unfolding pivots mark
pivots-after p C prime S e red eqn = counted (resolves p C S e)
  where
    counted : {o : Outcome} {T : ℕ → ℕ → ℕ} → Resolved p C S e o T → sum (λ q. mark (T q q)) C ≡ sum (λ q. mark (S q q)) C + newly o
    counted (resolved-new c l b d) =
        sum_more (λ q. mark (S q q)) (λ q. mark (inserted p S N c q q)) C c l
        (ap mark (fits.free c (le_of_lt l)))
        (ap mark (inserted-here p S N c c c refl ∙ fits.one))
        (λ q k x. ap mark (sym (inserted-there p S N c q q x ∙ ⊎_elim (still q k) (kept q k) (red.rows q k))))
      where
        N : ℕ → ℕ
        N = normal p (residual p C S e) c

        fits : Fits p C S N c
        fits = normal-fits p C prime S e red eqn c l b d

        still : (q : ℕ) → q < C → ZeroRow C S q → (S q q + (p - S q c) * N q) % p ≡ S q q
        still q k z = rw (z q (le_of_lt k), z c (le_of_lt l), sub-zero p, zero-add (p * N q)) (mul-mod_right p (N q))

        kept : (q : ℕ) → q < C → Pivot C S q → (S q q + (p - S q c) * N q) % p ≡ S q q
        kept q k v = rw (fits.pivots q k v, mul-zero (p - S q c), add-zero (S q q)) (mod-eq_of_lt (red.residues q q k (le_of_lt k)))
    counted (resolved-implied z) = sym (add-zero (sum (λ q. mark (S q q)) C))
    counted (resolved-contradiction z d) = sym (add-zero (sum (λ q. mark (S q q)) C))
