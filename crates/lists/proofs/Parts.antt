-- A part of a list, from a start and of a length, as the code's `&s[a..a + l]` is read, and what a list reads as at a place.
--     part_length, cut-length, part_at       the part's length, and what stands at a place of it
--     part-each                              what each place of a list has, and 0 too, each place of a part of it has
--     at-past                                past its end a list reads as 0
--     all-zero, zeros-at, zeros-part, zeros-front      a list of zeros reads as 0 everywhere, and a part of it, or its front, is a list of zeros
-- Assumes nothing.
use mathlib.Core.Path.{◌≡◌, ap, ◌∙◌}
use mathlib.Core.List.{List}
use Prim.Native.Nat.{ℕ, ◌+◌, ◌-◌, ◌≤◌, ◌<◌}
use native.Mathlib.Decide.{dec_lt}
use native.Mathlib.Nat.{add-sub_cancel_left}
use native.Mathlib.Omega.{arith}
use lib.ListN.{length, take, drop, replicate, length-take, length-drop, length-replicate, get_or-replicate, get_or-eq_default}
use lib.Seq.{length-take-le, get_or-take, get_or-drop}
use Rattle.lists.specs.Places.{tab, at}
use Rattle.lists.proofs.Tabs.{tab-length, tab-at, is-tab}

pub part_length : (xs : List ℕ) (a l : ℕ) → a + l ≤ length xs → length (take l (drop a xs)) ≡ l
part_length xs a l h = length-take-le l (drop a xs) (rw length-drop (omega arith))

-- as the code cuts it, from a to a + l
pub cut-length : (xs : List ℕ) (a l : ℕ) → a + l ≤ length xs → length (take (a + l - a) (drop a xs)) ≡ l
cut-length xs a l h = rw add-sub_cancel_left (part_length xs a l h)

pub part_at : (xs : List ℕ) (a l k : ℕ) → k < l → at (take l (drop a xs)) k ≡ at xs (a + k)
part_at xs a l k h = get_or-take l (drop a xs) k 0 h ∙ get_or-drop a xs k 0

pub at-past : (xs : List ℕ) (k : ℕ) → length xs ≤ k → at xs k ≡ 0
at-past xs k h = get_or-eq_default xs 0 h

pub part-each : (Q : ℕ → Type 0) (xs : List ℕ) (a l : ℕ) → Q 0 → ((i : ℕ) → Q (at xs i)) → (i : ℕ) → Q (at (take l (drop a xs)) i)
part-each Q xs a l none h i = elim (dec_lt i l) [
  | yes k ↦ rw (part_at xs a l i k) (h (a + i))
  | no k ↦ rw (at-past (take l (drop a xs)) i (rw length-take (omega arith))) none
]

pub all-zero : (n : ℕ) (xs : List ℕ) → xs ≡ tab n (λ _. 0) → (k : ℕ) → at xs k ≡ 0
all-zero n xs z k = elim (dec_lt k n) [
  | yes l ↦ ap (λ (ys : List ℕ). at ys k) z ∙ tab-at n (λ _. 0) 0 k l
  | no l ↦ at-past xs k (rw (z, tab-length {A = ℕ} n (λ _. 0)) (omega arith))
]

pub zeros-at : (n k : ℕ) → at (replicate n 0) k ≡ 0
zeros-at n = all-zero n (replicate n 0) (is-tab (replicate n 0) n (λ _. 0) 0 (length-replicate n 0) (λ i l. get_or-replicate n i 0 0 l))

pub zeros-part : (m a n : ℕ) → a + n ≤ m → take {A = ℕ} n (drop a (replicate m 0)) ≡ tab n (λ _. 0)
zeros-part m a n h =
    is-tab (take n (drop a (replicate m 0))) n (λ _. 0) 0 (part_length (replicate m 0) a n (rw length-replicate h))
    (λ i l. part_at (replicate m 0) a n i l ∙ zeros-at m (a + i))

pub zeros-front : (m n : ℕ) → n ≤ m → take {A = ℕ} n (replicate m 0) ≡ tab n (λ _. 0)
zeros-front m n h = zeros-part m 0 n (omega arith)
