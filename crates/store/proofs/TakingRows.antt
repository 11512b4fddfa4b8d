-- The loop of the store test, in either layout: the rows are taken in order, each with the columns from its own on. `after q` is the state after q rows.
--     Taken                                  before each turn: the state after the rows taken
--     taken_none, taken_next, taken-all      before the first row; one row more; after the last
--     columns-lent                           how many columns are lent with a row
--     unsound-said, last-asked               what the state then says, asked of an array that holds the columns
-- Assumes nothing.
use mathlib.Core.Path.{◌≡◌, sym, ap, ◌∙◌}
use mathlib.Core.Bool.{Bool, true, false, not, not-not}
use mathlib.Core.List.{List, ◌++◌, append-nil}
use Prim.Native.Nat.{ℕ, ◌+◌, ◌-◌, ◌≤◌, ◌<◌}
use native.Mathlib.Nat.{add-zero}
use native.Mathlib.Omega.{arith}
use lib.Dec.{ltb}
use lib.ListN.{length, take, drop, length-drop, drop_of_length-le, get_or-append}
use lib.Seq.{take_all, drop_at, drop-drop, length-take-le, get_or-append-add, get_or-drop}
use Rattle.lists.specs.Places.{tab, at}
use Rattle.lists.proofs.Tabs.{tab-length}
use Rattle.lists.proofs.Parts.{part_length}
use Rattle.lists.proofs.Placing.{placed-length, lent_placed}
use Rattle.store.specs.Reading.{State, state_of, begun, is_damaged}

pub record Taken (C : ℕ) (after : ℕ → State) (q : ℕ) (sound : Bool) (tops : List ℕ) : Type 0 where
  pub within : q ≤ C
  pub places : length tops ≡ C + 1
  pub state : state_of sound (drop q tops) ≡ after q

pub taken_none : {C : ℕ} {after : ℕ → State} {tops : List ℕ} → after 0 ≡ begun C → tops ≡ tab (C + 1) (λ _. 0) → Taken C after 0 true tops
taken_none {C} start z =
    record { within = omega arith; places = ap length z ∙ tab-length (C + 1) (λ _. 0); state = ap (state_of true) z ∙ sym start }

module _ {C : ℕ} {after : ℕ → State} {q : ℕ} {sound : Bool} {tops : List ℕ} (w : Taken C after q sound tops) where
  pub taken-all : C ≤ q → state_of sound (drop C tops) ≡ after C
  taken-all h =
      let e : q ≡ C = omega (arith, w.within) in
      ap (λ (n : ℕ). state_of sound (drop n tops)) (sym e) ∙ w.state ∙ ap after e

  pub columns-lent : length (take (C + 1 - q) (drop q tops)) ≡ C + 1 - q
  columns-lent = part_length tops q (C + 1 - q) (omega (arith, w.places, w.within))

  all : take (C + 1 - q) (drop q tops) ≡ drop q tops
  all = take_all (C + 1 - q) (drop q tops) (rw length-drop (omega (arith, w.places)))

  -- what the row makes of the state, told of the columns as lent and as they come back
  module _ (more : q < C) (sound' : Bool) (ys : List ℕ) (step : State → State) (count : length ys ≡ C + 1 - q)
      (turn : state_of sound' (drop 1 ys) ≡ step (state_of sound (take (C + 1 - q) (drop q tops)))) (next : after (q + 1) ≡ step (after q)) where
    abbrev new : List ℕ
    new = take q tops ++ (ys ++ drop (C + 1 - q) (drop q tops))

    behind : drop (q + 1) new ≡ drop 1 ys
    behind =
        sym (drop-drop 1 q new)
        ∙ ap (drop 1)
        (drop_at (take q tops) (ys ++ drop (C + 1 - q) (drop q tops)) q (length-take-le q tops (omega (arith, w.places)))
        ∙ ap (λ (l : List ℕ). ys ++ l) (drop_of_length-le (drop q tops) {i = C + 1 - q} (omega (arith, length-drop q tops, w.places)))
        ∙ append-nil ys)

    pub taken_next : Taken C after (q + 1) sound' new
    taken_next =
        record {
          within = omega arith;
          places = ap length (lent_placed tops q (C + 1 - q) ys count) ∙ placed-length tops q ys (omega (arith, count, w.places)) ∙ w.places;
          state = ap (state_of sound') behind ∙ turn ∙ ap (λ (xs : List ℕ). step (state_of sound xs)) all ∙ ap step w.state ∙ sym next;
        }

module _ (p C : ℕ) (sound : Bool) (tops : List ℕ) (s : State) (after : state_of sound (drop C tops) ≡ s) where
  pub unsound-said : sound ≡ false → false ≡ not (is_damaged p s)
  unfolding is_damaged
  unsound-said e = rw (sym after, e)

  -- in an array, behind what stands in front
  pub last-asked : (front rest : List ℕ) (k : ℕ) → k ≡ length front + C → length tops ≡ C + 1 → sound ≡ true
      → ltb (at (front ++ (tops ++ rest)) k) p ≡ not (is_damaged p s)
  unfolding is_damaged
  last-asked front rest k place count e =
      let last =
      ap (at (front ++ (tops ++ rest))) place
      ∙ get_or-append-add front (tops ++ rest) C 0
      ∙ get_or-append tops rest 0 C (omega arith)
      ∙ ap (at tops) (sym (add-zero C))
      ∙ sym (get_or-drop C tops 0 0) in
      ap (λ (n : ℕ). ltb n p) last ∙ sym (not-not (ltb (at (drop C tops) 0) p)) ∙ rw (sym after, e)
