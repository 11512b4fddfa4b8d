-- A list of C + 1 places at the front of a longer list, as a local array holds it.
--     front-list, front_length, front-room     the front is the list, its length, and that it is there
--     front_cut, front-residues                its part from column k on, as the code lends it
-- Assumes nothing.
use mathlib.Core.Path.{◌≡◌, ap, ◌∙◌}
use mathlib.Core.List.{List, ◌++◌}
use Prim.Native.Nat.{ℕ, ◌+◌, ◌-◌, ◌≤◌, ◌<◌}
use native.Mathlib.Decide.{dec_lt}
use native.Mathlib.Omega.{arith}
use lib.ListN.{length, take, drop, length-append, get_or-append}
use lib.Seq.{take_at}
use Rattle.lists.proofs.Parts.{part_length, part_at, at-past}
use Rattle.field.specs.Residues.{Residues}
use Rattle.store.specs.Stages.{Line}

module _ (C : ℕ) (xs rest : List ℕ) (count : length xs ≡ C + 1) where
  pub front-list : take (C + 1) (xs ++ rest) ≡ xs
  front-list = take_at xs rest (C + 1) count

  pub front_length : length (take (C + 1) (xs ++ rest)) ≡ C + 1
  front_length = ap length front-list ∙ count

  pub front-room : C + 1 ≤ length (xs ++ rest)
  front-room = rw length-append (omega arith)

module _ {p C : ℕ} {xs : List ℕ} (line : Line p C xs) (rest : List ℕ) {k : ℕ} (h : k ≤ C) where
  pub front_cut : length (take (C + 1 - k) (drop k (xs ++ rest))) ≡ C + 1 - k
  front_cut = part_length (xs ++ rest) k (C + 1 - k) (rw length-append (omega (arith, line.places)))

  pub front-residues : 0 < p → Residues p (take (C + 1 - k) (drop k (xs ++ rest)))
  front-residues pos i = elim (dec_lt i (C + 1 - k)) [
    | yes b ↦
        rw (part_at (xs ++ rest) k (C + 1 - k) i b, get_or-append xs rest 0 (k + i) (omega (arith, line.places))) (line.residues (k + i))
    | no b ↦ rw (at-past (take (C + 1 - k) (drop k (xs ++ rest))) i (rw front_cut (omega arith))) pos
  ]
