use mathlib.Core.Path.{◌≡◌, sym, ap, ◌∙◌}
use mathlib.Core.List.{List}
use Prim.Native.Nat.{ℕ, ◌+◌, ◌*◌, ◌≤◌, ◌<◌}
use native.Mathlib.Nat.{mul-le-mul, zero-add}
use native.Mathlib.Omega.{arith}
use Rattle.lists.specs.Places.{at}
use Rattle.lists.proofs.Sums.{sum-zero, sum-next}
use Rattle.field.specs.Residues.{Residues}
use Rattle.listing.specs.Norm as specs
use Rattle.listing.specs.Norm.{short}
use Rattle.listing.proofs.NormLimit.{short-half}
use Rattle.listing.proofs.norm.squares.Goals as goal

-- the square of a weight's short side, at most 127
small : (p : ℕ) (row : List ℕ) (j : ℕ) {side : ℕ} → p < 256 → Residues p row → side ≡ short p (at row j) → (side ≤ 127) × (side * side ≤ 127 * 127)
small p row j {side} top residues h =
    let half : side ≤ 127 = omega (arith, h, short-half p (at row j) (residues j)) in
    (half, mul-le-mul half half)

pub loop-w-init : goal.loop-w-init
unfolding specs.squares
loop-w-init c = record { value = sym (sum-zero _); small = omega arith }

pub loop-w-preserved : goal.loop-w-preserved
unfolding specs.squares
loop-w-preserved c =
    let s = c.args in
    let j = c.loop-w.w-index in
    let next = sum-next (λ k. short s.p (at s.row.now (0 + k)) * short s.p (at s.row.now (0 + k))) j in
    let square = ap (λ (x : ℕ). x * x) (c.short_side-short.ensures ∙ ap (λ (k : ℕ). short s.p (at s.row.now k)) (sym (zero-add j))) in record {
      value = omega (arith, c.loop-w.invariant.value, next, square);
      small = omega (arith, c.loop-w.invariant.small, (small s.p s.row.now j (omega arith) c.requires.residues c.short_side-short.ensures).1);
    }
