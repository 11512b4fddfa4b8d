-- The numbers of steps, kept at the front of a list (`Kept` of specs/Scanned.antt).
--     Putting v e count i xs      the first i of the numbers v stand in the list e behind `count` others, which gives xs, and have 16 bits each
--     putting-next, putting-all   one more, and after the last
--     wide-number                 a number that does not fit
--     kept_next                   as many numbers more as a line has
-- Assumes nothing.
use mathlib.Core.Path.{◌≡◌, refl, sym, ap, ap₂, subst, ◌∙◌}
use mathlib.Core.Bool.{Bool, true, false, false≢true}
use mathlib.Core.List.{List, [], ◌∷◌, ◌++◌, append_assoc}
use Rattle.std.specs.Prelude.{Option, Some, None, IfSome}
use Prim.Native.Nat.{ℕ, ◌+◌, ◌≤◌, ◌<◌}
use native.Mathlib.Decide.{ℕ_discrete}
use native.Mathlib.Numerals.{add-one}
use native.Mathlib.Omega.{arith}
use lib.Dec.{leb, ltb}
use lib.ListN.{length, set, take, drop, length-append, length-set}
use lib.Seq.{take_at, take_all, take-suc, length-take-le}
use borrow.Author.Tests.{le-leb, leb-true, lt-ltb}
use Rattle.lists.specs.Places.{placed, at}
use Rattle.lists.proofs.Tests.{both, both_true, and-false, every_of}
use Rattle.lists.proofs.Placing.{placed-set, placed-placed}
use Rattle.field.specs.Rows.{all_below}
use Rattle.field.proofs.Ranges.{below_none, below-append}
use Rattle.readback.specs.Scanned.{fits, count_after, Held, Lost, Kept}

pub record Putting (v e : List ℕ) (count i : ℕ) (xs : List ℕ) : Type 0 where
  pub few : i ≤ length v
  pub size : length xs ≡ length e
  pub list : xs ≡ placed e count (take i v)
  pub narrow : (k : ℕ) → k < i → at v k < 65536

module _ (v e : List ℕ) (count : ℕ) where
  module _ (room : count + length v ≤ length e) {i : ℕ} {xs : List ℕ} (p : Putting v e count i xs) where
    pub putting-next : i < length v → at v i < 65536 → Putting v e count (i + 1) (set xs (count + i) (at v i))
    putting-next l small =
        let front = length-take-le i v p.few in
        let place : count + i ≡ count + length (take i v) = omega (arith, front) in
        let inside : count + i < length xs = omega (arith, room, p.size) in
        record {
          few = omega arith;
          size = length-set xs (count + i) (at v i) ∙ p.size;
          list =
              placed-set xs (count + i) (at v i) inside
              ∙ ap₂ (λ (o : List ℕ) (k : ℕ). placed o k (at v i ∷ [])) p.list place
              ∙ placed-placed e count (take i v) (at v i ∷ []) (omega (arith, room, front))
              ∙ ap (placed e count) (sym (ap (λ (k : ℕ). take k v) (add-one i) ∙ take-suc v i 0 l));
          narrow = λ k h. elim (ℕ_discrete k i) [
            | yes same ↦ rw same small
            | no other ↦ p.narrow k (omega arith)
          ];
        }

    pub putting-all : length v ≤ i → (fits v (length e) count ≡ true) × (xs ≡ placed e count v)
    putting-all full = (
      both (leb (count + length v) (length e)) (all_below 65536 v) (le-leb (count + length v) (length e) room)
          (every_of (λ j. ltb (at v j) 65536) (length v) (λ j l. lt-ltb (at v j) 65536 (p.narrow j (omega arith)))),
      p.list ∙ ap (placed e count) (take_all i v full),
    )

  pub wide-number : (i : ℕ) → i < length v → 65536 ≤ at v i → fits v (length e) count ≡ false
  wide-number i l h = rw (below_none 65536 v i l h) (and-false (leb (count + length v) (length e)))

-- the front of a list, behind which numbers have been put
take-placed : (out xs : List ℕ) (k : ℕ) → k + length xs ≤ length out → take (k + length xs) (placed out k xs) ≡ take k out ++ xs
take-placed out xs k h =
    ap (take (k + length xs)) (sym (append_assoc (take k out) xs (drop (k + length xs) out)))
    ∙ take_at (take k out ++ xs) (drop (k + length xs) out) (k + length xs) (length-append (take k out) xs ∙ ap (λ (n : ℕ). n + length xs) (length-take-le k out (omega arith)))

module _ (ns v steps left : List ℕ) (size : length left ≡ length steps) where
  held_next : (k : ℕ) (r : Option ℕ) → r ≡ count_after v (length steps) (Some k) → (fits v (length steps) k ≡ true → left ≡ placed steps k v) → Held ns steps k
      → (b : Bool) → fits v (length steps) k ≡ b → Kept (ns ++ v) left r
  held_next k r answer put h true t =
      let room : k + length v ≤ length steps = leb-true (k + length v) (length steps) (both_true (leb (k + length v) (length steps)) (all_below 65536 v) t).0 in
      let kept : Held (ns ++ v) left (k + length v) = record {
        room = omega (arith, room, size);
        list = ap (take (k + length v)) (put t) ∙ take-placed steps v k room ∙ ap (λ (xs : List ℕ). xs ++ v) h.list;
      } in
      let end : r ≡ Some (k + length v) = answer ∙ rw t in subst (Kept (ns ++ v) left) (sym end) kept
  held_next k r answer put h false t =
      let lost : Lost (ns ++ v) left = record {
        unfit = λ few all.
            let count-is = sym (ap length h.list) ∙ length-take-le k steps h.room in
            let b = both_true (all_below 65536 ns) (all_below 65536 v) (sym (below-append 65536 ns v) ∙ all) in
            let room : k + length v ≤ length steps = omega (arith, few, size, count-is, length-append ns v) in
            false≢true (sym t ∙ both (leb (k + length v) (length steps)) (all_below 65536 v) (le-leb (k + length v) (length steps) room) b.1);
      } in
      let none : r ≡ None = answer ∙ rw t in subst (Kept (ns ++ v) left) (sym none) lost

  pub kept_next : (count r : Option ℕ) → r ≡ count_after v (length steps) count → IfSome count (λ k. fits v (length steps) k ≡ true → left ≡ placed steps k v)
      → Kept ns steps count → Kept (ns ++ v) left r
  kept_next (Some k) r answer put h = held_next k r answer put h (fits v (length steps) k) refl
  kept_next None r answer put h =
      let lost : Lost (ns ++ v) left = record {
        unfit = λ few all.
            let b = both_true (all_below 65536 ns) (all_below 65536 v) (sym (below-append 65536 ns v) ∙ all) in
            h.unfit (omega (arith, few, size, length-append ns v)) b.0;
      } in
      subst (Kept (ns ++ v) left) (sym answer) lost
