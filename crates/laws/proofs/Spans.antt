-- What rows span, and what that has to do with their solutions.
--     combined-row             each row is a sum of multiples of the rows
--     combined-cong            so is an equation that agrees modulo p with one that is
--     combined-mul             so is a multiple of one that is
--     combined-add             so is the sum of two
--     combined-sum             so is a sum of multiples of equations that are
--     combined-trans           so is a sum of multiples modulo p of equations that are
--     combined-more            so it is of these rows and one more
--     combined-satisfies       what satisfies the rows satisfies each sum of multiples of them
--     span-equations           rows with the same span span the same equations
--     span-solutions           rows with the same span have the same solutions
--     span_ext                 the span depends on the places of the rows alone
--     implied-combined         an equation that all solutions of a reduced store satisfy is a sum of multiples of its rows
--     same-solutions-span      reduced stores with the same solutions have the same span
-- Assumes nothing.
use mathlib.Core.Path.{◌≡◌, refl, sym, ap, ◌∙◌}
use mathlib.Core.Bool.{true, cond}
use mathlib.Core.Logic.{◌↔◌}
use mathlib.Core.List.{List}
use Prim.Native.Nat.{ℕ, zero, suc, ◌+◌, ◌*◌, ◌%◌, ◌≤◌, ◌<◌}
use native.Mathlib.Nat.{le_refl, le_step, lt-suc_self, zero-mul, one-mul, mul_comm, add-zero}
use native.Mathlib.Omega.{arith}
use lib.Dec.{eqb, ltb}
use lib.ListN.{length}
use borrow.Author.Tests.{eq-eqb, ne_eqb, lt-ltb, le-ltb}
use Rattle.lists.specs.Places.{sum, at}
use Rattle.lists.proofs.Sums.{sum-suc, sum-none, sum-ext, sum-add, sum-mul, sum-only}
use Rattle.field.specs.Primes.{odd_prime}
use Rattle.field.specs.Residues.{Residues}
use Rattle.field.proofs.Modular.{cong-add, cong-mul}
use Rattle.store.specs.Elimination.{Satisfies, Solves, Reduced}
use Rattle.store.specs.Span.{Combined, SameSpan}
use Rattle.store.proofs.Combinations.{satisfies-cong, satisfies-sum}
use Rattle.store.proofs.Filing.{Equation}
use Rattle.store.proofs.Implications.{implied-sum}

module _ (p C : ℕ) (A : ℕ → ℕ → ℕ) (n : ℕ) where
  pub combined-row : (q : ℕ) → q < n → Combined p C A n (A q)
  combined-row q l =
      record {
        by = λ r. cond (eqb r q) 1 0;
        sums = λ j k.
            ap (λ (m : ℕ). m % p)
            (sym (sum-only (λ r. cond (eqb r q) 1 0 * A r j) n q l (λ r i d. rw (ne_eqb r q d) (zero-mul (A r j)))
            ∙ rw (eq-eqb q q refl) (one-mul (A q j))));
      }

  pub combined-cong : (f g : ℕ → ℕ) → ((j : ℕ) → j ≤ C → g j % p ≡ f j % p) → Combined p C A n f → Combined p C A n g
  combined-cong f g h c = record { by = c.by; sums = λ j l. h j l ∙ c.sums j l }

  pub combined-mul : (m : ℕ) (f : ℕ → ℕ) → Combined p C A n f → Combined p C A n (λ j. m * f j)
  combined-mul m f c =
      record {
        by = λ q. m * c.by q;
        sums = λ j l.
            cong-mul p m m (f j) (sum (λ q. c.by q * A q j) n) refl (c.sums j l)
            ∙ ap (λ (k : ℕ). k % p)
            (mul_comm m (sum (λ q. c.by q * A q j) n) ∙ sym (sum-mul (λ q. c.by q * A q j) m n)
            ∙ sum-ext (λ q. c.by q * A q j * m) (λ q. m * c.by q * A q j) n (λ q i. omega arith));
      }

  pub combined-add : (f g : ℕ → ℕ) → Combined p C A n f → Combined p C A n g → Combined p C A n (λ j. f j + g j)
  combined-add f g c d =
      record {
        by = λ q. c.by q + d.by q;
        sums = λ j l.
            cong-add p (f j) (sum (λ q. c.by q * A q j) n) (g j) (sum (λ q. d.by q * A q j) n) (c.sums j l) (d.sums j l)
            ∙ ap (λ (k : ℕ). k % p)
            (sym (sum-add (λ q. c.by q * A q j) (λ q. d.by q * A q j) n)
            ∙ sum-ext (λ q. c.by q * A q j + d.by q * A q j) (λ q. (c.by q + d.by q) * A q j) n (λ q i. omega arith));
      }

  combined-sum : (B : ℕ → ℕ → ℕ) (by : ℕ → ℕ) (m : ℕ) → ((q : ℕ) → q < m → Combined p C A n (B q)) → Combined p C A n (λ j. sum (λ q. by q * B q j) m)
  unfolding sum
  combined-sum B by zero h =
      record { by = λ _. 0; sums = λ j l. ap (λ (k : ℕ). k % p) (sym (sum-none (λ q. 0 * A q j) n (λ q i. zero-mul (A q j)))) }
  combined-sum B by (suc m) h =
      combined-add (λ j. sum (λ q. by q * B q j) m) (λ j. by m * B m j) (combined-sum B by m (λ q l. h q (le_step l)))
      (combined-mul (by m) (B m) (h m (lt-suc_self m)))

  pub combined-trans : (B : ℕ → ℕ → ℕ) (m : ℕ) (e : ℕ → ℕ) → ((q : ℕ) → q < m → Combined p C A n (B q)) → Combined p C B m e → Combined p C A n e
  combined-trans B m e h c = combined-cong (λ j. sum (λ q. c.by q * B q j) m) e c.sums (combined-sum B c.by m h)

  pub combined-more : (e : ℕ → ℕ) → Combined p C A n e → Combined p C A (suc n) e
  combined-more e c =
      record {
        by = λ q. cond (ltb q n) (c.by q) 0;
        sums = λ j l.
            c.sums j l
            ∙ ap (λ (k : ℕ). k % p)
            (sum-ext (λ q. c.by q * A q j) (λ q. cond (ltb q n) (c.by q) 0 * A q j) n (λ q i. rw (lt-ltb q n i))
            ∙ sym (sum-suc (λ q. cond (ltb q n) (c.by q) 0 * A q j) n ∙ rw (le-ltb n n (le_refl n), zero-mul (A n j)) (add-zero _)));
      }

  pub combined-satisfies : (e : ℕ → ℕ) → Combined p C A n e → (β : ℕ → ℕ) → ((q : ℕ) → q < n → Satisfies p C (A q) β) → Satisfies p C e β
  combined-satisfies e c β s =
      satisfies-cong p C β (λ j. sum (λ q. c.by q * A q j) n) e (λ j l. sym (c.sums j l)) (satisfies-sum p C β c.by A n s)

module _ (p C : ℕ) (A : ℕ → ℕ → ℕ) (a : ℕ) (B : ℕ → ℕ → ℕ) (b : ℕ) where
  pub span-solutions : SameSpan p C A a B b → (β : ℕ → ℕ)
      → ((q : ℕ) → q < a → Satisfies p C (A q) β) ↔ ((q : ℕ) → q < b → Satisfies p C (B q) β)
  span-solutions h β = (
    (λ s q l. combined-satisfies p C A a (B q) (h.1 q l) β s),
    (λ s q l. combined-satisfies p C B b (A q) (h.0 q l) β s),
  )

  pub span-equations : SameSpan p C A a B b → (e : ℕ → ℕ) → Combined p C A a e ↔ Combined p C B b e
  span-equations h e = (
    (λ c. combined-trans p C B b A a e h.0 c),
    (λ c. combined-trans p C A a B b e h.1 c),
  )

  pub span_ext : (A' : ℕ → ℕ → ℕ) → ((q j : ℕ) → q < a → j ≤ C → A' q j ≡ A q j) → SameSpan p C A a B b → SameSpan p C A' a B b
  span_ext A' same h = (
    (λ q l. combined-cong p C B b (A q) (A' q) (λ j k. ap (λ (m : ℕ). m % p) (same q j l k)) (h.0 q l)),
    (λ q l.
        let c = h.1 q l in
        record {
          by = c.by;
          sums = λ j k.
              c.sums j k
              ∙ ap (λ (m : ℕ). m % p)
              (sum-ext (λ r. c.by r * A r j) (λ r. c.by r * A' r j) a (λ r i. ap (λ (m : ℕ). c.by r * m) (sym (same r j i k))));
        }),
  )

pub implied-combined : (p C : ℕ) → odd_prime p ≡ true → (S : ℕ → ℕ → ℕ) (e : ℕ → ℕ) → Reduced p C S → Equation p C e
    → ((β : List ℕ) → length β ≡ C → Residues p β → Solves p C S (at β) → Satisfies p C e (at β)) → Combined p C S C e
implied-combined p C prime S e red eqn h = record { by = e; sums = implied-sum p C prime S e red eqn h }

pub same-solutions-span : (p C : ℕ) → odd_prime p ≡ true → (S S' : ℕ → ℕ → ℕ) → Reduced p C S → Reduced p C S'
    → ((β : List ℕ) → length β ≡ C → Residues p β → (Solves p C S (at β) ↔ Solves p C S' (at β))) → SameSpan p C S C S' C
same-solutions-span p C prime S S' red red' h = (
  (λ q l. implied-combined p C prime S' (S q) red' (λ j k. red.residues q j l k) (λ β n r s. (h β n r).1 s q l)),
  (λ q l. implied-combined p C prime S (S' q) red (λ j k. red'.residues q j l k) (λ β n r s. (h β n r).0 s q l)),
)
