-- A list with its places from k on overwritten by another list, `placed out k xs`: these are the laws of every write in place.
--     placed-length      the list keeps its length where what is written fits
--     placed-before, placed-within, placed-after      what stands before place k, from it on, and behind what is written
--     placed-placed      two lists written one behind the other are their concatenation written once
--     placed-nothing     nothing written
--     placed-set         one element written
--     placed-whole       a list written over all of another
--     lent_placed        a part that was lent, from place k on and of l places, and came back as xs
-- Assumes nothing.
use mathlib.Core.Path.{◌≡◌, sym, ap, ap₂, ◌∙◌}
use mathlib.Core.List.{List, [], ◌∷◌, ◌++◌, append_assoc, append-nil}
use Prim.Native.Nat.{ℕ, ◌+◌, ◌-◌, ◌≤◌, ◌<◌}
use native.Mathlib.Nat.{add-zero, zero-add}
use native.Mathlib.Numerals.{add-one}
use native.Mathlib.Omega.{arith}
use lib.ListN.{length, set, take, drop, length-append, length-take, length-drop, take-append-drop, drop_of_length-le, get_or-append}
use lib.Seq.{take_at, drop_at, length-take-le, drop-drop, set_split, get_or-append-add, get_or-take, get_or-drop}
use Rattle.lists.specs.Places.{placed, at}

module _ {ℓ} {A : Type ℓ} where
  pub placed-length : (out : List A) (k : ℕ) (xs : List A) → k + length xs ≤ length out → length (placed out k xs) ≡ length out
  placed-length out k xs h = simp (length-append, length-take, length-drop) (omega arith)

  pub placed-nothing : (out : List A) (k : ℕ) → placed out k [] ≡ out
  placed-nothing out k = rw add-zero (take-append-drop k out)

  front : (out : List A) (k : ℕ) (xs : List A) → k + length xs ≤ length out → length (take k out ++ xs) ≡ k + length xs
  front out k xs h = length-append (take k out) xs ∙ ap (λ (n : ℕ). n + length xs) (length-take-le k out (omega arith))

  split : (out : List A) (k : ℕ) (xs : List A) → placed out k xs ≡ (take k out ++ xs) ++ drop (k + length xs) out
  split out k xs = sym (append_assoc (take k out) xs (drop (k + length xs) out))

  pub placed-placed : (out : List A) (k : ℕ) (xs ys : List A) → k + length xs ≤ length out → placed (placed out k xs) (k + length xs) ys ≡ placed out k (xs ++ ys)
  placed-placed out k xs ys h =
      ap₂ ◌++◌
      (ap (take (k + length xs)) (split out k xs) ∙ take_at (take k out ++ xs) (drop (k + length xs) out) (k + length xs) (front out k xs h))
      (ap (λ (l : List A). ys ++ l) rest)
      ∙ append_assoc (take k out) xs (ys ++ drop (k + length (xs ++ ys)) out)
      ∙ ap (λ (l : List A). take k out ++ l) (sym (append_assoc xs ys (drop (k + length (xs ++ ys)) out)))
    where
      rest : drop (k + length xs + length ys) (placed out k xs) ≡ drop (k + length (xs ++ ys)) out
      rest =
          let e : k + length xs + length ys ≡ k + length (xs ++ ys) = rw length-append (omega arith) in
          sym (drop-drop (length ys) (k + length xs) (placed out k xs))
          ∙ ap (drop (length ys)) (ap (drop (k + length xs)) (split out k xs) ∙ drop_at (take k out ++ xs) (drop (k + length xs) out) (k + length xs) (front out k xs h))
          ∙ drop-drop (length ys) (k + length xs) out
          ∙ ap (λ (n : ℕ). drop n out) e

  pub placed-set : (out : List A) (k : ℕ) (x : A) → k < length out → set out k x ≡ placed out k (x ∷ [])
  placed-set out k x h = set_split out k x h ∙ ap (λ (n : ℕ). take k out ++ (x ∷ drop n out)) (sym (add-one k))

  pub placed-whole : (out xs : List A) → length out ≤ length xs → placed out 0 xs ≡ xs
  placed-whole out xs h = rw (zero-add, drop_of_length-le out h) (append-nil xs)

  pub lent_placed : (out : List A) (k l : ℕ) (xs : List A) → length xs ≡ l → take k out ++ (xs ++ drop l (drop k out)) ≡ placed out k xs
  lent_placed out k l xs e =
      ap (λ (rest : List A). take k out ++ (xs ++ rest)) (drop-drop l k out ∙ ap (λ (n : ℕ). drop (k + n) out) (sym e))

module _ (out : List ℕ) (k : ℕ) (xs : List ℕ) (room : k + length xs ≤ length out) where
  size : length (take k out) ≡ k
  size = length-take-le k out (omega arith)

  pub placed-before : (i : ℕ) → i < k → at (placed out k xs) i ≡ at out i
  placed-before i h = get_or-append (take k out) (xs ++ drop (k + length xs) out) 0 i (rw size h) ∙ get_or-take k out i 0 h

  from : (i : ℕ) → at (placed out k xs) (k + i) ≡ at (xs ++ drop (k + length xs) out) i
  from i =
      ap (λ (n : ℕ). at (placed out k xs) (n + i)) (sym size) ∙ get_or-append-add (take k out) (xs ++ drop (k + length xs) out) i 0

  pub placed-within : (i : ℕ) → i < length xs → at (placed out k xs) (k + i) ≡ at xs i
  placed-within i h = from i ∙ get_or-append xs (drop (k + length xs) out) 0 i h

  pub placed-after : (i : ℕ) → k + length xs ≤ i → at (placed out k xs) i ≡ at out i
  placed-after i h =
      let n : ℕ = i - (k + length xs) in
      let e : k + (length xs + n) ≡ i = omega arith in
      let e' : k + length xs + n ≡ i = omega arith in
      ap (at (placed out k xs)) (sym e)
      ∙ from (length xs + n)
      ∙ get_or-append-add xs (drop (k + length xs) out) n 0
      ∙ get_or-drop (k + length xs) out n 0
      ∙ ap (at out) e'
