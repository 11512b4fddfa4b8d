-- What the state of the store test knows, and that it knows it with one row more.
--     Tops           the columns after q rows, from column q on: the one of column j is at most k exactly when each row is so there
--     Known          what the state says is so: whether each row taken is sound, and, while it is, of the columns
--     known_next     one row more
-- Assumes nothing.
use mathlib.Core.Path.{◌≡◌, refl, sym, ap, ◌∙◌}
use mathlib.Core.Bool.{Bool, true, false, cond, ◌&&◌}
use mathlib.Core.Logic.{◌⊎◌, inl, inr, ⊎_elim, ⊎_map, ◌↔◌}
use mathlib.Core.List.{List}
use Prim.Native.Nat.{ℕ, ◌+◌, ◌-◌, ◌≤◌, ◌<◌, max}
use native.Mathlib.Nat.{le-max_left, le-max_right, le_of_lt, add-zero}
use native.Mathlib.Decide.{dec_lt, ℕ_discrete}
use native.Mathlib.Omega.{arith}
use lib.Dec.{eqb, ltb}
use lib.ListN.{length, drop, length-drop}
use lib.Seq.{get_or-drop}
use borrow.Author.Tests.{eq-eqb, ne_eqb, eqb-true, lt-ltb, ltb-true}
use Rattle.lists.specs.Places.{at}
use Rattle.lists.proofs.Tests.{refute, both, both_true}
use Rattle.lists.proofs.Tabs.{tab-at}
use Rattle.lists.proofs.Parts.{at-past}
use Rattle.field.specs.Residues.{Residues}
use Rattle.field.specs.Rows.{all_below, maxima}
use Rattle.field.proofs.Ranges.{residues-of, below_of, maxima-none}
use Rattle.store.specs.Elimination.{ZeroRow}
use Rattle.store.specs.Reading.{State, row_sound, counted, took}
use Rattle.store.proofs.SoundRows.{Sound}
use Rattle.store.proofs.RowTests.{counted-length}

-- which side of a test held
sides : (b x y : Bool) → cond b x y ≡ true → ((b ≡ true) × (x ≡ true)) ⊎ ((b ≡ false) × (y ≡ true))
sides true x y h = inl (refl, h)
sides false x y h = inr (refl, h)

module _ (p C : ℕ) (S : ℕ → ℕ → ℕ) where
  abbrev pub Tops : ℕ → List ℕ → Type 0
  Tops q tops = (i k : ℕ) → q + i ≤ C → (at tops i ≤ k) ↔ ((r : ℕ) → r < q → S r (q + i) ≤ k)

  pub record Known (q : ℕ) (s : State) : Type 0 where
    pub places : length s.tops ≡ C + 1 - q
    pub tops : s.sound ≡ true → Tops q s.tops
    pub sound : (s.sound ≡ true) ↔ ((r : ℕ) → r < q → Sound p C S r)

  -- one row more, row q, which is zero left of its diagonal, by its places from there on
  module _ (low : 2 ≤ p) (q : ℕ) (s : State) (w : Known q s) (row : List ℕ) (count : length row ≡ C + 1 - q) (l : q < C)
      (left : (j : ℕ) → j < q → S q j ≡ 0) (place : (i : ℕ) → q + i ≤ C → at row i ≡ S q (q + i)) where
    diagonal : at row 0 ≡ S q q
    diagonal = place 0 (omega arith) ∙ ap (S q) (add-zero q)

    zero-means : (all_below 1 row ≡ true) ↔ ZeroRow C S q
    zero-means = (zero_row, (λ z. below_of 1 row (small z)))
      where
        zero_row : all_below 1 row ≡ true → ZeroRow C S q
        zero_row t j h = elim (dec_lt j q) [
          | yes b ↦ left j b
          | no b ↦
              let e : q + (j - q) ≡ j = omega arith in
              ap (S q) (sym e) ∙ sym (place (j - q) (omega arith)) ∙ omega (arith, residues-of 1 row (omega arith) t (j - q))
        ]

        small : ZeroRow C S q → Residues 1 row
        small z i = elim (dec_lt C (q + i)) [
          | yes b ↦ omega (arith, at-past row i (omega (arith, count)))
          | no b ↦ omega (arith, place i (omega arith), z (q + i) (omega arith))
        ]

    above : ℕ
    above = at s.tops 0

    above-means : s.sound ≡ true → (k : ℕ) → (above ≤ k) ↔ ((i : ℕ) → i < q → S i q ≤ k)
    unfolding above
    above-means so k =
        let here : q + 0 ≡ q = add-zero q in
        ((λ h i b. rw here at ((w.tops so 0 k (omega arith)).0 h i b)), (λ h. (w.tops so 0 k (omega arith)).1 (λ i b. rw here (h i b))))

    sound-of : s.sound ≡ true → row_sound p above row ≡ true → Sound p C S q
    unfolding row_sound
    sound-of so e =
        ⊎_map
        (λ z.
        let k : above ≤ p - 1 = omega (arith, ltb-true above p z.1) in
        (zero-means.0 z.0, λ i h. omega (arith, (above-means so (p - 1)).0 k i h)))
        (λ o.
        let t = both_true (eqb above 0) (eqb (at row 0) 1) o.1 in
        let k : above ≤ 0 = omega (arith, eqb-true above 0 t.0) in
        (sym diagonal ∙ eqb-true (at row 0) 1 t.1, λ i h. omega (arith, (above-means so 0).0 k i h)))
        (sides (all_below 1 row) (ltb above p) (eqb above 0 && eqb (at row 0) 1) e)

    of-sound : s.sound ≡ true → Sound p C S q → row_sound p above row ≡ true
    unfolding row_sound
    of-sound so v =
        ⊎_elim
        (λ z.
        let k : above ≤ p - 1 = (above-means so (p - 1)).1 (λ i h. omega (arith, z.1 i h)) in
        rw (zero-means.1 z.0) (lt-ltb above p (omega arith)))
        (λ o.
        let k : above ≤ 0 = (above-means so 0).1 (λ i h. omega (arith, o.1 i h)) in
        rw (refute (all_below 1 row) (λ t. omega (arith, zero-means.0 t q (le_of_lt l), o.0)))
        (both (eqb above 0) (eqb (at row 0) 1) (eq-eqb above 0 (omega arith)) (eq-eqb (at row 0) 1 (diagonal ∙ o.0))))
        v

    -- a sound row is counted as any: without a pivot it is zero, and raises nothing
    same-counted : Sound p C S q → counted s.tops row ≡ maxima s.tops row
    unfolding counted
    same-counted v =
        ⊎_elim (λ z. rw (eq-eqb (at row 0) 0 (diagonal ∙ z.0 q (le_of_lt l))) (maxima-none s.tops row (zero-means.1 z.0)))
        (λ o. rw (ne_eqb (at row 0) 0 (λ e. omega (arith, diagonal, o.0)))) v

    width : length (counted s.tops row) ≡ C + 1 - q
    width = counted-length s.tops row ∙ w.places

    -- column q + 1 + i
    column : Sound p C S q → (i : ℕ) → q + 1 + i ≤ C → at (drop 1 (counted s.tops row)) i ≡ max (at s.tops (1 + i)) (S q (q + (1 + i)))
    column v i h =
        get_or-drop 1 (counted s.tops row) i 0
        ∙ ap (λ (xs : List ℕ). at xs (1 + i)) (same-counted v)
        ∙ tab-at (length s.tops) (λ j. max (at s.tops j) (at row j)) 0 (1 + i) (omega (arith, w.places))
        ∙ ap (max (at s.tops (1 + i))) (place (1 + i) (omega arith))

    tops_next : s.sound ≡ true → Sound p C S q → Tops (q + 1) (drop 1 (counted s.tops row))
    tops_next so v i k h =
        let e : q + 1 + i ≡ q + (1 + i) = omega arith in
        let o = column v i h in (
          (λ b r m. rw e (elim (ℕ_discrete r q) [
            | yes d ↦ omega (arith, ap (λ (n : ℕ). S n (q + (1 + i))) d, le-max_right (at s.tops (1 + i)) (S q (q + (1 + i))))
            | no d ↦
                let a : at s.tops (1 + i) ≤ k = omega (arith, le-max_left (at s.tops (1 + i)) (S q (q + (1 + i)))) in
                (w.tops so (1 + i) k (omega arith)).0 a r (omega arith)
          ])),
          (λ b.
              let a : at s.tops (1 + i) ≤ k = (w.tops so (1 + i) k (omega arith)).1 (λ r m. rw e at (b r (omega arith))) in
              let c : S q (q + (1 + i)) ≤ k = rw e at (b q (omega arith)) in
              omega arith),
        )

    pub known_next : Known (q + 1) (took p s row)
    unfolding above
    known_next =
        record {
          places = length-drop 1 (counted s.tops row) ∙ omega (arith, width);
          tops = λ t. let b = both_true (row_sound p above row) s.sound t in tops_next b.1 (sound-of b.1 b.0);
          sound = (
            (λ t r m.
                let b = both_true (row_sound p above row) s.sound t in
                elim (ℕ_discrete r q) [
                  | yes e ↦ rw e (sound-of b.1 b.0)
                  | no d ↦ w.sound.0 b.1 r (omega arith)
                ]),
            (λ all.
                let so = w.sound.1 (λ r m. all r (omega arith)) in
                both (row_sound p above row) s.sound (of-sound so (all q (omega arith))) so),
          );
        }
