-- Where the rows of a store stand. Nothing else knows how long a row is kept or where it starts: what changes the layout changes
-- `store_size` of `plan`, `row_start`, `cells` and `flat` of specs/, these laws, and `Bytes`.
--     start-zero      row 0 starts at 0
--     start-next      how far behind a row's column 0 that of the next would stand
--     start_is        where column 0 of row q would stand
--     rows_apart      a row ends before the rows behind it start
--     start-last      the rows fill the store
--     row-end         a row ends within the store
-- Assumes nothing.
use mathlib.Core.Path.{◌≡◌, sym, ap, ◌∙◌}
use Prim.Native.Nat.{ℕ, zero, suc, ◌+◌, ◌-◌, ◌*◌, ◌/◌, ◌≤◌, ◌<◌}
use native.Mathlib.Nat.{le_refl, mul-add}
use native.Mathlib.Omega.{arith}
use Rattle.lists.proofs.Sums.{sum-zero, sum-suc, sum-next, sum_mono}
use Rattle.plan.specs.Parts.{store_size}
use Rattle.store.specs.Elimination.{row_start}

pub start-zero : (C : ℕ) → row_start C 0 ≡ 0
unfolding row_start
start-zero C = sum-zero _

pub start-next : (C q : ℕ) → row_start C (q + 1) ≡ row_start C q + (C - q)
unfolding row_start
start-next C q = sum-next (λ r. C - r) q

twice : (C q : ℕ) → q ≤ C → 2 * row_start C q + q * q ≡ 2 * q * C + q
unfolding row_start
twice C zero l = rw sum-zero (omega arith)
twice C (suc q) l = rw sum-suc (omega (arith, twice C q (omega arith)))

pub start_is : (C q : ℕ) → q ≤ C → row_start C q ≡ q * (2 * C + 1 - q) / 2
start_is C q l =
    let back : 2 * C + 1 - q + q ≡ 2 * C + 1 = omega arith in
    let product : q * (2 * C + 1 - q) + q * q ≡ q * (2 * C + 1) = sym (mul-add q (2 * C + 1 - q) q) ∙ ap (λ (n : ℕ). q * n) back in
    omega (arith, twice C q l, product)

pub rows_apart : (C q r : ℕ) → q < C → q < r → row_start C q + (C + 1) ≤ row_start C r + r
unfolding row_start
rows_apart C q r l h =
    let next : q + 1 ≤ r = omega arith in
    omega (arith, sum-next (λ r. C - r) q, sum_mono (λ r. C - r) next)

pub start-last : (C : ℕ) → row_start C C + C ≡ store_size C
unfolding store_size
start-last C = omega (arith, twice C C (le_refl C))

pub row-end : (C q : ℕ) → q < C → row_start C q + (C + 1) ≤ store_size C
row-end C q l = omega (arith, rows_apart C q C l l, start-last C)
