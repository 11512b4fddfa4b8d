-- Reduced form as it can be told row by row in order, of a store that is zero left of its diagonal: what each row asks of itself and of the rows
-- above it, and what is left to ask of all rows together.
--     Sound               row r is all zero, with residues above its diagonal, or has a 1 on the diagonal and nothing above
--     InOrder             each row is sound, and the right-hand sides are residues
--     in_order, reduced-of      such a store is in reduced form exactly when it is so
-- Assumes nothing.
use mathlib.Core.Path.{◌≡◌, ap}
use mathlib.Core.Logic.{◌⊎◌, ⊎_elim, ⊎_map}
use Prim.Native.Nat.{ℕ, ◌≤◌, ◌<◌}
use native.Mathlib.Nat.{le_refl, le_of_lt}
use native.Mathlib.Decide.{dec_lt, ℕ_discrete}
use native.Mathlib.Omega.{arith}
use Rattle.store.specs.Elimination.{ZeroRow, Pivot, Reduced}

abbrev pub Sound : ℕ → ℕ → (ℕ → ℕ → ℕ) → ℕ → Type 0
Sound p C S r = (ZeroRow C S r × ((i : ℕ) → i < r → S i r < p)) ⊎ ((S r r ≡ 1) × ((i : ℕ) → i < r → S i r ≡ 0))

pub record InOrder (p C : ℕ) (S : ℕ → ℕ → ℕ) : Type 0 where
  pub rows : (r : ℕ) → r < C → Sound p C S r
  pub last : (r : ℕ) → r < C → S r C < p

module _ (p C : ℕ) (S : ℕ → ℕ → ℕ) where
  pub in_order : Reduced p C S → InOrder p C S
  in_order red =
      record {
        rows = λ r l.
            ⊎_map (λ z. (z, λ i h. red.residues i r (omega arith) (le_of_lt l))) (λ v. (v.one, λ i h. v.others i (omega arith) (λ e. omega arith))) (red.rows r l);
        last = λ r l. red.residues r C l (le_refl C);
      }

  pub reduced-of : ((r j : ℕ) → r < C → j < r → S r j ≡ 0) → 2 ≤ p → InOrder p C S → Reduced p C S
  reduced-of under low w = record { residues = small; rows = λ r l. ⊎_map (λ z. z.0) (pivot r l) (w.rows r l) }
    where
      diagonal : (r : ℕ) → r < C → S r r < p
      diagonal r l = ⊎_elim (λ z. omega (arith, z.0 r (le_of_lt l))) (λ v. omega (arith, v.0)) (w.rows r l)

      -- right of the diagonal, before the right-hand side
      above : (r j : ℕ) → r < j → j < C → S r j < p
      above r j h l = ⊎_elim (λ z. z.1 r h) (λ v. omega (arith, v.1 r h)) (w.rows j l)

      small : (r j : ℕ) → r < C → j ≤ C → S r j < p
      small r j l h = elim (dec_lt j r) [
        | yes b ↦ omega (arith, under r j l b)
        | no b ↦
            elim (ℕ_discrete j r) [
              | yes e ↦ omega (arith, ap (S r) e, diagonal r l)
              | no d ↦
                  elim (ℕ_discrete j C) [
                    | yes e ↦ omega (arith, ap (S r) e, w.last r l)
                    | no f ↦ above r j (omega arith) (omega arith)
                  ]
            ]
      ]

      pivot : (r : ℕ) → r < C → (S r r ≡ 1) × ((i : ℕ) → i < r → S i r ≡ 0) → Pivot C S r
      pivot r l v =
          record {
            left = λ j h. under r j l h;
            one = v.0;
            others = λ i k d. elim (dec_lt i r) [
              | yes b ↦ v.1 i b
              | no b ↦ under i r k (omega arith)
            ];
          }
