-- The test of reduced form is reduced form, and what reduced form says of two rows.
--     zeros-mean          the test that a row is zero at its first n places
--     is_zero_row-means   the test of a zero row is a zero row
--     is_pivot-means      the test of a pivot is a pivot
--     is_reduced-means    the test of reduced form is reduced form
--     reduced-ext         reduced form depends on the places of the C rows alone
--     left-zero           left of its diagonal a row is zero
--     flat-reads, flat-reduced      a reduced store's bytes are read as it is, so that they are a reduced store
--     off-pivot           for rows q and r, not the same, row q is zero in column r or row r is zero everywhere
-- Assumes nothing.
use mathlib.Core.Path.{◌≡◌, refl, sym, ◌∙◌}
use mathlib.Core.Bool.{Bool, true, false, ◌&&◌, ◌||◌, or-true}
use mathlib.Core.Logic.{◌⊎◌, inl, inr, ⊎_elim, ⊎_map, ◌↔◌, ◌≢◌}
use Prim.Native.Nat.{ℕ, ◌+◌, ◌≤◌, ◌<◌}
use native.Mathlib.Nat.{le_of_lt}
use native.Mathlib.Decide.{ℕ_discrete}
use native.Mathlib.Omega.{arith}
use lib.Dec.{eqb, ltb}
use borrow.Author.Tests.{eq-eqb, eqb-true, lt-ltb, ltb-true}
use Rattle.lists.specs.Places.{every}
use Rattle.lists.proofs.Tests.{both, both_true, every-at, every_of}
use Rattle.store.specs.Elimination.{ZeroRow, Pivot, Reduced, is_zero_row, is_pivot, is_reduced, cells, flat}
use Rattle.store.proofs.Bytes.{cells-flat}

pub either_true : (a b : Bool) → (a || b) ≡ true → (a ≡ true) ⊎ (b ≡ true)
either_true true b h = inl refl
either_true false b h = inr h

pub either : (a b : Bool) → (a ≡ true) ⊎ (b ≡ true) → (a || b) ≡ true
either a b (inl h) = rw h
either a b (inr h) = rw h (or-true a)

zeros-mean : (f : ℕ → ℕ) (n : ℕ) → (every (λ j. eqb (f j) 0) n ≡ true) ↔ ((j : ℕ) → j < n → f j ≡ 0)
zeros-mean f n = (
  (λ h j l. eqb-true (f j) 0 (every-at (λ j. eqb (f j) 0) n h j l)),
  (λ h. every_of (λ j. eqb (f j) 0) n (λ j l. eq-eqb (f j) 0 (h j l))),
)

module _ (C : ℕ) (S : ℕ → ℕ → ℕ) (q : ℕ) where
  pub is_zero_row-means : (is_zero_row C S q ≡ true) ↔ ZeroRow C S q
  unfolding is_zero_row
  is_zero_row-means = (
    (λ h j l. (zeros-mean (S q) (C + 1)).0 h j (omega arith)),
    (λ h. (zeros-mean (S q) (C + 1)).1 (λ j l. h j (omega arith))),
  )

  elsewhere : ℕ → Bool
  elsewhere r = eqb r q || eqb (S r q) 0

  elsewhere-means : (every elsewhere C ≡ true) ↔ ((r : ℕ) → r < C → r ≢ q → S r q ≡ 0)
  unfolding elsewhere
  elsewhere-means = (
    (λ h r l d. ⊎_elim (λ t. absurd (d (eqb-true r q t))) (eqb-true (S r q) 0) (either_true (eqb r q) (eqb (S r q) 0) (every-at elsewhere C h r l))),
    (λ h. every_of elsewhere C (λ r l. either (eqb r q) (eqb (S r q) 0) (place h r l))),
  )
    where
      place : ((r : ℕ) → r < C → r ≢ q → S r q ≡ 0) → (r : ℕ) → r < C → (eqb r q ≡ true) ⊎ (eqb (S r q) 0 ≡ true)
      place h r l = elim (ℕ_discrete r q) [
        | yes e ↦ inl (eq-eqb r q e)
        | no d ↦ inr (eq-eqb (S r q) 0 (h r l d))
      ]

  pub is_pivot-means : (is_pivot C S q ≡ true) ↔ Pivot C S q
  unfolding is_pivot elsewhere
  is_pivot-means = (
    (λ h.
        let a = both_true (every (λ j. eqb (S q j) 0) q) (eqb (S q q) 1 && every elsewhere C) h in
        let b = both_true (eqb (S q q) 1) (every elsewhere C) a.1 in
        record { left = (zeros-mean (S q) q).0 a.0; one = eqb-true (S q q) 1 b.0; others = elsewhere-means.0 b.1 }),
    (λ h.
        both (every (λ j. eqb (S q j) 0) q) (eqb (S q q) 1 && every elsewhere C) ((zeros-mean (S q) q).1 h.left)
        (both (eqb (S q q) 1) (every elsewhere C) (eq-eqb (S q q) 1 h.one) (elsewhere-means.1 h.others))),
  )

module _ (p C : ℕ) (S : ℕ → ℕ → ℕ) where
  small : ℕ → Bool
  small q = every (λ j. ltb (S q j) p) (C + 1)

  small-means : (every small C ≡ true) ↔ ((q j : ℕ) → q < C → j ≤ C → S q j < p)
  unfolding small
  small-means = (
    (λ h q j l k. ltb-true (S q j) p (every-at (λ j. ltb (S q j) p) (C + 1) (every-at small C h q l) j (omega arith))),
    (λ h. every_of small C (λ q l. every_of (λ j. ltb (S q j) p) (C + 1) (λ j k. lt-ltb (S q j) p (h q j l (omega arith))))),
  )

  rows : ℕ → Bool
  rows q = is_zero_row C S q || is_pivot C S q

  rows-mean : (every rows C ≡ true) ↔ ((q : ℕ) → q < C → ZeroRow C S q ⊎ Pivot C S q)
  unfolding rows
  rows-mean = (
    (λ h q l. ⊎_map (is_zero_row-means C S q).0 (is_pivot-means C S q).0 (either_true (is_zero_row C S q) (is_pivot C S q) (every-at rows C h q l))),
    (λ h. every_of rows C (λ q l. either (is_zero_row C S q) (is_pivot C S q) (⊎_map (is_zero_row-means C S q).1 (is_pivot-means C S q).1 (h q l)))),
  )

  pub is_reduced-means : (is_reduced p C S ≡ true) ↔ Reduced p C S
  unfolding is_reduced small rows
  is_reduced-means = (
    (λ h.
        let a = both_true (every small C) (every rows C) h in
        record { residues = small-means.0 a.0; rows = rows-mean.0 a.1 }),
    (λ h. both (every small C) (every rows C) (small-means.1 h.residues) (rows-mean.1 h.rows)),
  )

pub reduced-ext : (p C : ℕ) (S S' : ℕ → ℕ → ℕ) → ((q j : ℕ) → q < C → j ≤ C → S q j ≡ S' q j) → Reduced p C S → Reduced p C S'
reduced-ext p C S S' h r =
    record {
      residues = λ q j l k. rw (h q j l k) at (r.residues q j l k);
      rows = λ q l. ⊎_map (λ z j k. sym (h q j l k) ∙ z j k) (pivot q l) (r.rows q l);
    }
  where
    pivot : (q : ℕ) → q < C → Pivot C S q → Pivot C S' q
    pivot q l v =
        record {
          left = λ j k. sym (h q j l (omega arith)) ∙ v.left j k;
          one = sym (h q q l (le_of_lt l)) ∙ v.one;
          others = λ i k d. sym (h i q k (le_of_lt l)) ∙ v.others i k d;
        }

module _ (p C : ℕ) (S : ℕ → ℕ → ℕ) (red : Reduced p C S) where
  pub left-zero : (q j : ℕ) → q < C → j < q → S q j ≡ 0
  left-zero q j l h = ⊎_elim (λ z. z j (omega arith)) (λ v. v.left j h) (red.rows q l)

  pub flat-reads : (q j : ℕ) → q < C → j ≤ C → cells C (flat C S) q j ≡ S q j
  flat-reads q j l k = cells-flat C S q j l k (left-zero q j l)

  pub flat-reduced : Reduced p C (cells C (flat C S))
  flat-reduced = reduced-ext p C S (cells C (flat C S)) (λ q j l k. sym (flat-reads q j l k)) red

-- reduced form, of two rows
pub off-pivot : (p C : ℕ) (S : ℕ → ℕ → ℕ) → Reduced p C S → (q r : ℕ) → q < C → r < C → q ≢ r → (S q r ≡ 0) ⊎ ZeroRow C S r
off-pivot p C S h q r l k d = ⊎_elim inr (λ v. inl (v.others q l d)) (h.rows r k)
