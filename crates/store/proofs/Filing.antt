-- Filing an equation into a reduced store.
--     above-one, positive     a prime is above 1, and above 0
--     Equation p C e      the places 0 to C of e are residues
--     normal-fits         the residual made normal fits in as row c, if c is the residual's first nonzero column
--     resolved-reduced       a filing keeps reduced form
--     resolved-solves        if it is no contradiction, the solutions left are the old ones that satisfy e
--     after-reduced, after-solves     the same of `after`
--     stored-reads, stored-reduced, stored-solves     its bytes: they are read as it is, so they have the same properties
-- The residual's first nonzero column is no pivot's, since there the residual is zero, so its row is free.
-- Assumes nothing.
use mathlib.Core.Path.{◌≡◌, refl, sym}
use mathlib.Core.Bool.{true}
use mathlib.Core.Logic.Iff
use mathlib.Core.Logic.{⊎_elim, ◌↔◌, ◌≢◌}
use mathlib.Core.List.{List}
use Prim.Native.Nat.{ℕ, ◌≤◌, ◌<◌}
use native.Mathlib.Nat.{le_of_lt}
use native.Mathlib.Omega.{arith}
use Rattle.field.specs.Primes.{odd_prime}
use Rattle.field.proofs.PrimeTable.{odd_prime-means}
use Rattle.store.specs.Elimination.{Satisfies, Solves, Pivot, Reduced, Outcome, contradiction, residual, normal, inserted, outcome, after, cells, flat}
use Rattle.store.proofs.Combinations.{satisfies-zero}
use Rattle.store.proofs.ReducedForm.{flat-reads, flat-reduced}
use Rattle.store.proofs.SamePlaces.{solves-ext}
use Rattle.store.proofs.Residuals.{residual-small, residual-pivot, residual-satisfies, normal-small, normal-zero, normal-one, normal-satisfies}
use Rattle.store.proofs.Answers.{Resolved, resolved-new, resolved-implied, resolved-contradiction, resolves}
use Rattle.store.proofs.Inserting.{Fits, inserted-reduced, inserted-solves}

pub above-one : (p : ℕ) → odd_prime p ≡ true → 1 < p
above-one p prime = omega (arith, ((odd_prime-means p).0 prime).0)

pub positive : (p : ℕ) → odd_prime p ≡ true → 0 < p
positive p prime = le_of_lt (above-one p prime)

abbrev pub Equation : ℕ → ℕ → (ℕ → ℕ) → Type 0
Equation p C e = (j : ℕ) → j ≤ C → e j < p

module _ (p C : ℕ) (prime : odd_prime p ≡ true) (S : ℕ → ℕ → ℕ) (e : ℕ → ℕ) (red : Reduced p C S) (eqn : Equation p C e) where
  pub normal-fits : (c : ℕ) → c < C → ((j : ℕ) → j < c → residual p C S e j ≡ 0) → residual p C S e c ≢ 0
      → Fits p C S (normal p (residual p C S e) c) c
  normal-fits c l b d =
      record {
        column = l;
        free = ⊎_elim (λ z. z) (λ v. absurd (d (at-pivot c l v))) (red.rows c l);
        small = λ j. normal-small p R c j (positive p prime);
        before = λ j k. normal-zero p R c j (positive p prime) (b j k);
        one = normal-one p C prime R c d (residual-small p C S e c (positive p prime));
        pivots = λ q k v. normal-zero p R c q (positive p prime) (at-pivot q k v);
      }
    where
      R : ℕ → ℕ
      R = residual p C S e

      at-pivot : (q : ℕ) → q < C → Pivot C S q → R q ≡ 0
      at-pivot q k v = residual-pivot p C S e q k (eqn q (le_of_lt k)) v

  pub resolved-reduced : {o : Outcome} {T : ℕ → ℕ → ℕ} → Resolved p C S e o T → Reduced p C T
  resolved-reduced (resolved-new c l b d) = inserted-reduced p C S (normal p (residual p C S e) c) c (above-one p prime) red (normal-fits c l b d)
  resolved-reduced (resolved-implied z) = red
  resolved-reduced (resolved-contradiction z d) = red

  pub resolved-solves : {o : Outcome} {T : ℕ → ℕ → ℕ} → Resolved p C S e o T → o ≢ contradiction → (β : ℕ → ℕ)
      → Solves p C T β ↔ (Solves p C S β × Satisfies p C e β)
  resolved-solves (resolved-new c l b d) n β = (
    (λ s. let t = row.0 s in (t.0, (residual-satisfies p C S e β t.0).0 (scaled.0 t.1))),
    (λ s. row.1 (s.0, scaled.1 ((residual-satisfies p C S e β s.0).1 s.1))),
  )
    where
      R : ℕ → ℕ
      R = residual p C S e

      row : Solves p C (inserted p S (normal p R c) c) β ↔ (Solves p C S β × Satisfies p C (normal p R c) β)
      row = inserted-solves p C S (normal p R c) c (above-one p prime) red (normal-fits c l b d) β

      scaled : Satisfies p C (normal p R c) β ↔ Satisfies p C R β
      scaled = normal-satisfies p C prime R c d (residual-small p C S e c (positive p prime)) β
  resolved-solves (resolved-implied z) n β = (
    (λ s. (s, (residual-satisfies p C S e β s).0 (satisfies-zero p C β (residual p C S e) z))),
    (λ s. s.0),
  )
  resolved-solves (resolved-contradiction z d) n β = absurd (n refl)

  pub after-reduced : Reduced p C (after p C S e)
  after-reduced = resolved-reduced (resolves p C S e)

  pub after-solves : outcome p C S e ≢ contradiction → (β : ℕ → ℕ) → Solves p C (after p C S e) β ↔ (Solves p C S β × Satisfies p C e β)
  after-solves = resolved-solves (resolves p C S e)

-- the bytes of the store after filing e into the bytes `store`
module _ (p C : ℕ) (prime : odd_prime p ≡ true) (store : List ℕ) (e : ℕ → ℕ) (red : Reduced p C (cells C store)) (eqn : Equation p C e) where
  pub stored-reads : (q j : ℕ) → q < C → j ≤ C → cells C (flat C (after p C (cells C store) e)) q j ≡ after p C (cells C store) e q j
  stored-reads = flat-reads p C (after p C (cells C store) e) (after-reduced p C prime (cells C store) e red eqn)

  pub stored-reduced : Reduced p C (cells C (flat C (after p C (cells C store) e)))
  stored-reduced = flat-reduced p C (after p C (cells C store) e) (after-reduced p C prime (cells C store) e red eqn)

  pub stored-solves : outcome p C (cells C store) e ≢ contradiction → (β : ℕ → ℕ)
      → Solves p C (cells C (flat C (after p C (cells C store) e))) β ↔ (Solves p C (cells C store) β × Satisfies p C e β)
  stored-solves kept β = Iff.trans (
    solves-ext p C (cells C (flat C T)) T stored-reads β β (λ j l. refl),
    solves-ext p C T (cells C (flat C T)) (λ q j l k. sym (stored-reads q j l k)) β β (λ j l. refl),
  )
      (after-solves p C prime (cells C store) e red eqn kept β)
    where
      T : ℕ → ℕ → ℕ
      T = after p C (cells C store) e
