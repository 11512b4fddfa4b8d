-- One store with any equations: what a list of filings keeps true of it. `eq i v` is the equation of entry i with value v; its places up to C
-- are residues for values below s.
--     empty-reduced, empty-solves     the empty store is reduced, and everything solves it
--     zeros, zeros-read, zeros-reduced      its bytes
--     Holds S K                       the store has its length and reduced form, what solves it is what satisfies each entry of K, and K is in range
--     holds-empty                     the empty store, with nothing kept
--     contradicts                     filing is a contradiction exactly when no list of C residues satisfies it together with all of K
--     holds-filed                     the state after a filing that is no contradiction
-- Assumes nothing.
use mathlib.Core.Path.{◌≡◌, refl, sym, subst, ◌∙◌}
use mathlib.Core.Bool.{true}
use mathlib.Core.List.Memᴰ
use mathlib.Core.List.{List, [], ◌∷◌, ◌++◌, Memᴰ}
use mathlib.Core.Logic.{◌↔◌, inl, ⊎_elim, ◌≢◌}
use Prim.Native.Nat.{ℕ, ◌+◌, ◌≤◌, ◌<◌}
use native.Mathlib.Decide.{dec_lt}
use native.Mathlib.Omega.{arith}
use lib.ListN.{length, replicate, length-replicate}
use Rattle.lists.specs.Places.{at}
use Rattle.lists.proofs.Parts.{zeros-at}
use Rattle.field.specs.Primes.{odd_prime}
use Rattle.field.specs.Residues.{Residues}
use Rattle.plan.specs.Parts.{store_size}
use Rattle.store.specs.Elimination.{Satisfies, Solves, Reduced, contradiction, outcome, after, row_start, cells, flat}
use Rattle.store.specs.Filings.{empty}
use Rattle.store.proofs.Bytes.{cells_left, cells_right, flat-length}
use Rattle.store.proofs.Combinations.{satisfies-zero}
use Rattle.store.proofs.ReducedForm.{reduced-ext}
use Rattle.store.proofs.SamePlaces.{solves-ext}
use Rattle.store.proofs.Filing.{positive, stored-reduced, stored-solves}
use Rattle.store.proofs.Contradictions.{contradiction-exactly}

pub empty-reduced : (p C : ℕ) → odd_prime p ≡ true → Reduced p C empty
empty-reduced p C prime = record { residues = λ q j l k. positive p prime; rows = λ q l. inl (λ j k. refl) }

empty-solves : (p C : ℕ) (β : ℕ → ℕ) → Solves p C empty β
empty-solves p C β q l = satisfies-zero p C β (empty q) (λ j k. refl)

abbrev pub zeros : ℕ → List ℕ
zeros C = replicate (store_size C) 0

pub zeros-read : (C q j : ℕ) → 0 ≡ cells C (zeros C) q j
zeros-read C q j = elim (dec_lt j q) [
  | yes l ↦ sym (cells_left C (zeros C) q j l)
  | no l ↦ sym (cells_right C (zeros C) q j (omega arith) ∙ zeros-at (store_size C) (row_start C q + j))
]

pub zeros-reduced : (p C : ℕ) → odd_prime p ≡ true → Reduced p C (cells C (zeros C))
zeros-reduced p C prime = reduced-ext p C empty (cells C (zeros C)) (λ q j l k. zeros-read C q j) (empty-reduced p C prime)

module _ (p C s N : ℕ) (eq : ℕ → ℕ → ℕ → ℕ) where
  pub record Holds (S : List ℕ) (K : List (ℕ × ℕ)) : Type 0 where
    pub size : length S ≡ store_size C
    pub reduced : Reduced p C (cells C S)
    pub solves : (β : ℕ → ℕ) → Solves p C (cells C S) β ↔ ((i v : ℕ) → Memᴰ (i, v) K → Satisfies p C (eq i v) β)
    pub ranges : (i v : ℕ) → Memᴰ (i, v) K → (i < N) × (v < s)

  module _ (prime : odd_prime p ≡ true) where
    pub holds-empty : Holds (zeros C) []
    holds-empty =
        record {
          size = length-replicate (store_size C) 0;
          reduced = zeros-reduced p C prime;
          solves = λ β. (
            (λ h i v m. absurd (Memᴰ.not-nil m)),
            (λ h. solves-ext p C empty (cells C (zeros C)) (λ q j l k. zeros-read C q j) β β (λ j l. refl) (empty-solves p C β)),
          );
          ranges = λ i v m. absurd (Memᴰ.not-nil m);
        }

    module _ (residues : (i v : ℕ) → v < s → (j : ℕ) → j ≤ C → eq i v j < p) (S : List ℕ) (K : List (ℕ × ℕ)) (h : Holds S K) (i v : ℕ) (below : v < s) where
      pub contradicts : (outcome p C (cells C S) (eq i v) ≡ contradiction)
          ↔ ((β : List ℕ) → length β ≡ C → Residues p β
          → ((j u : ℕ) → Memᴰ (j, u) K → Satisfies p C (eq j u) (at β)) → Satisfies p C (eq i v) (at β) → ⊥)
      contradicts =
          let c = contradiction-exactly p C prime (cells C S) (eq i v) h.reduced (residues i v below) in (
            (λ e β l r each sat. c.0 e β l r ((h.solves (at β)).1 each) sat),
            (λ none. c.1 (λ β l r sol sat. none β l r ((h.solves (at β)).0 sol) sat)),
          )

      pub holds-filed : i < N → outcome p C (cells C S) (eq i v) ≢ contradiction → Holds (flat C (after p C (cells C S) (eq i v))) (K ++ ((i, v) ∷ []))
      holds-filed near kept =
          record {
            size = flat-length C (after p C (cells C S) (eq i v));
            reduced = stored-reduced p C prime S (eq i v) h.reduced (residues i v below);
            solves = λ β. (
              (λ sol j u m.
                  let b = (both β).0 sol in
                  ⊎_elim ((h.solves β).0 b.0 j u)
                  (λ m1. subst (λ (x : ℕ × ℕ). Satisfies p C (eq x.0 x.1) β) (sym (Memᴰ.eq_of_singleton m1)) b.1)
                  (Memᴰ.append_cases K m)),
              (λ each.
                  (both β).1
                  ((h.solves β).1 (λ j u m. each j u (Memᴰ.append_left ((i, v) ∷ []) m)), each i v (Memᴰ.append_right K (Memᴰ.head refl)))),
            );
            ranges = λ j u m. ⊎_elim (h.ranges j u)
                (λ m1. subst (λ (x : ℕ × ℕ). (x.0 < N) × (x.1 < s)) (sym (Memᴰ.eq_of_singleton m1)) (near, below))
                (Memᴰ.append_cases K m);
          }
        where
          both : (β : ℕ → ℕ) → Solves p C (cells C (flat C (after p C (cells C S) (eq i v)))) β ↔ (Solves p C (cells C S) β × Satisfies p C (eq i v) β)
          both = stored-solves p C prime S (eq i v) h.reduced (residues i v below) kept
