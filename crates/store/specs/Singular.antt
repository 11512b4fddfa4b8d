-- That a store is ready holds in one way at most, as the ghost field of `Against` asks of its fact: no row is both zero and a pivot's. Nothing
-- is defined here. Stands on `Elimination` and `Stages`. Assumes nothing.
--     Ready-prop p C store   `Ready p C store` is a proposition
use mathlib.Core.Path.{ap, ap₂}
use mathlib.Core.HLevel.{Π_prop}
use mathlib.Core.Logic.{◌⊎◌, inl, inr}
use mathlib.Core.List.{List}
use Prim.Native.Nat.{ℕ, ◌<◌, ◌≤◌}
use native.Mathlib.Nat.{le_of_lt}
use native.Mathlib.Omega.{arith}
use denote.Struct.Props.{props}
use Rattle.store.specs.Elimination.{ZeroRow, Pivot, Reduced}
use Rattle.store.specs.Stages.{Ready}

row-prop : (C : ℕ) (S : ℕ → ℕ → ℕ) (q : ℕ) → q < C → IsProp (ZeroRow C S q ⊎ Pivot C S q)
row-prop C S q l (inl x) (inl y) = let one : IsProp (ZeroRow C S q) = hlevel props in ap inl (one x y)
row-prop C S q l (inl x) (inr y) = absurd (omega (arith, x q (le_of_lt l), y.one))
row-prop C S q l (inr x) (inl y) = absurd (omega (arith, x.one, y q (le_of_lt l)))
row-prop C S q l (inr x) (inr y) = let one : IsProp (Pivot C S q) = hlevel props in ap inr (one x y)

Reduced-prop : (p C : ℕ) (S : ℕ → ℕ → ℕ) → IsProp (Reduced p C S)
Reduced-prop p C S x y = ap₂ of_parts (residues x.residues y.residues) (rows x.rows y.rows)
  where
    of_parts : ((q j : ℕ) → q < C → j ≤ C → S q j < p) → ((q : ℕ) → q < C → ZeroRow C S q ⊎ Pivot C S q) → Reduced p C S
    of_parts a b = record { residues = a; rows = b }

    residues : IsProp ((q j : ℕ) → q < C → j ≤ C → S q j < p)
    residues = hlevel props

    rows : IsProp ((q : ℕ) → q < C → ZeroRow C S q ⊎ Pivot C S q)
    rows = Π_prop (λ q. Π_prop (λ l. row-prop C S q l))

pub Ready-prop : (p C : ℕ) (store : List ℕ) → IsProp (Ready p C store)
Ready-prop p C store = hlevel (props, Reduced-prop)
