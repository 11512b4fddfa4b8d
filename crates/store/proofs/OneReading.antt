-- The theorem of the store test: after the last row the state says damaged exactly when the store is not in reduced form. Of a reading S by row and
-- column that is zero left of its diagonal; `rows` are its rows from there on.
--     after_next, after-places      the state after q rows: the row behind, its number of columns
--     damaged-exactly               the theorem
-- Assumes nothing.
use mathlib.Core.Path.{◌≡◌, refl, sym, ap, subst, ◌∙◌}
use mathlib.Core.Bool.{Bool, true, not, ◌&&◌}
use mathlib.Core.Logic.{◌↔◌}
use mathlib.Core.List.{List}
use Prim.Native.Nat.{ℕ, zero, suc, ◌+◌, ◌-◌, ◌≤◌, ◌<◌}
use native.Mathlib.Nat.{le_refl, add-zero, sub-zero, not-suc-le-zero}
use native.Mathlib.Numerals.{add-one}
use native.Mathlib.Omega.{arith}
use lib.Dec.{ltb}
use lib.ListN.{length}
use borrow.Author.Tests.{lt-ltb, ltb-true}
use Rattle.lists.specs.Places.{at}
use Rattle.lists.proofs.Tests.{same_tests, both, both_true}
use Rattle.lists.proofs.Tabs.{tab-length, tab-at}
use Rattle.store.specs.Elimination.{is_reduced}
use Rattle.store.specs.Reading.{State, took, state_after, is_damaged}
use Rattle.store.proofs.ReducedForm.{is_reduced-means}
use Rattle.store.proofs.SoundRows.{InOrder, in_order, reduced-of}
use Rattle.store.proofs.RowStates.{Known, known_next}

-- after the last row
module _ (p C : ℕ) (S : ℕ → ℕ → ℕ) (left : (q j : ℕ) → q < C → j < q → S q j ≡ 0) (low : 2 ≤ p) (s : State) (w : Known p C S C s) where
  last-column : s.sound ≡ true → (k : ℕ) → (at s.tops 0 ≤ k) ↔ ((r : ℕ) → r < C → S r C ≤ k)
  last-column so k =
      let here : C + 0 ≡ C = add-zero C in
      ((λ h r l. rw here at ((w.tops so 0 k (omega arith)).0 h r l)), (λ h. (w.tops so 0 k (omega arith)).1 (λ r l. rw here (h r l))))

  abbrev passes : Bool
  passes = s.sound && ltb (at s.tops 0) p

  order-of : passes ≡ true → InOrder p C S
  order-of e =
      let a = both_true s.sound (ltb (at s.tops 0) p) e in
      let z : at s.tops 0 ≤ p - 1 = omega (arith, ltb-true (at s.tops 0) p a.1) in
      record { rows = w.sound.0 a.0; last = λ r l. omega (arith, (last-column a.0 (p - 1)).0 z r l) }

  of-order : InOrder p C S → passes ≡ true
  of-order o =
      let so = w.sound.1 o.rows in
      let z : at s.tops 0 ≤ p - 1 = (last-column so (p - 1)).1 (λ r l. omega (arith, o.last r l)) in
      both s.sound (ltb (at s.tops 0) p) so (lt-ltb (at s.tops 0) p (omega arith))

  damaged-known : is_damaged p s ≡ not (is_reduced p C S)
  unfolding is_damaged
  damaged-known =
      ap not
      (same_tests passes (is_reduced p C S) (λ e. (is_reduced-means p C S).1 (reduced-of p C S left low (order-of e)))
      (λ e. of-order (in_order p C S ((is_reduced-means p C S).0 e))))

pub after_next : (p C : ℕ) (rows : ℕ → List ℕ) (q : ℕ) → state_after p C rows (q + 1) ≡ took p (state_after p C rows q) (rows q)
unfolding state_after
after_next p C rows q = rw (add-one q)

module _ (p C : ℕ) (S : ℕ → ℕ → ℕ) (rows : ℕ → List ℕ) (left : (q j : ℕ) → q < C → j < q → S q j ≡ 0) (low : 2 ≤ p)
    (count : (q : ℕ) → q < C → length (rows q) ≡ C + 1 - q) (place : (q i : ℕ) → q < C → q + i ≤ C → at (rows q) i ≡ S q (q + i)) where
  known : (q : ℕ) → q ≤ C → Known p C S q (state_after p C rows q)
  unfolding state_after
  known zero l =
      record {
        places = tab-length {A = ℕ} (C + 1) (λ _. 0) ∙ sym (sub-zero (C + 1));
        tops = λ so i k h. ((λ b r m. absurd (not-suc-le-zero m)), (λ b. omega (arith, tab-at {A = ℕ} (C + 1) (λ _. 0) 0 i (omega arith))));
        sound = ((λ e r m. absurd (not-suc-le-zero m)), (λ h. refl));
      }
  known (suc q) l =
      subst (λ (n : ℕ). Known p C S n (took p (state_after p C rows q) (rows q))) (add-one q)
      (known_next p C S low q (state_after p C rows q) (known q (omega arith)) (rows q) (count q l) l (λ j h. left q j l h) (λ i h. place q i l h))

  pub after-places : (q : ℕ) → q ≤ C → length (state_after p C rows q).tops ≡ C + 1 - q
  after-places q l = (known q l).places

  pub damaged-exactly : is_damaged p (state_after p C rows C) ≡ not (is_reduced p C S)
  damaged-exactly = damaged-known p C S left low (state_after p C rows C) (known C (le_refl C))
