-- A program at the front of an array that is lent for it, which is larger.
--     program-room, program-fits       there is room, for every checked plan
--     program-front, program-written, program-length      the front of the array when the program has been written there
-- Assumes nothing.
use mathlib.Core.Path.{◌≡◌, sym, ap, ◌∙◌}
use mathlib.Core.List.{List, ◌++◌, append-nil}
use Prim.Native.Nat.{ℕ, ◌+◌, ◌*◌, ◌≤◌}
use native.Mathlib.Omega.{arith}
use lib.ListN.{length, take, drop, length-append, drop_of_length-le}
use lib.Seq.{take_at, length-take-le}
use Rattle.lists.specs.Places.{placed}
use Rattle.plan.specs.declared.numbers.Plan.{Plan}
use Rattle.plan.specs.Numbers.{Within}
use Rattle.program.specs.Layout.{layout, step_count}
use Rattle.program.proofs.Shape.{layout-length, step-limit}

pub program-room : (P : Plan) (n : ℕ) → Within P → n ≡ step_count P → (4 * n ≤ 17228) × ((w d β : List ℕ) → length (layout P w d β) ≡ 4 * n)
program-room P n within e = (omega (arith, step-limit P within), λ w d β. layout-length P w d β ∙ ap (λ (k : ℕ). 4 * k) (sym e))

pub program-fits : (P : Plan) (n : ℕ) {k : ℕ} → Within P → n ≡ step_count P → 17228 ≤ k → 4 * n ≤ k
program-fits P n within e h = omega (arith, (program-room P n within e).0)

-- a slice whose front of k places has been lent and filled
module _ (steps out xs : List ℕ) (k : ℕ) (l : k ≤ length steps) (e : length xs ≡ k) (h : out ≡ placed (take k steps) 0 xs) where
  whole : out ≡ xs
  whole =
      let room : length (take k steps) ≤ 0 + length xs = rw (length-take-le k steps l) (omega arith) in
      h ∙ ap (λ (ys : List ℕ). xs ++ ys) (drop_of_length-le (take k steps) room) ∙ append-nil xs

  pub program-front : k ≤ length (out ++ drop k steps)
  program-front = rw length-append (omega (arith, ap length whole))

  pub program-written : take k (out ++ drop k steps) ≡ xs
  program-written = ap (λ (ys : List ℕ). take k (ys ++ drop k steps)) whole ∙ take_at xs (drop k steps) k e

  pub program-length : k ≡ length (take k (out ++ drop k steps))
  program-length = sym (ap length program-written ∙ e)
