-- The residual with its sums deferred: row after row is subtracted in full width, and one reduction at the end gives the residual.
--     row_zero              a row of a reduced store that begins with 0 on the diagonal is zero
--     less                  what is added of row q at a place
--     Subtracted            the state after q rows: the sums by place, whether they stand in one list or in two
--     subtracted-none, subtracted-next, subtracted-all      before the first row, a row more, and after the last
--     subtracted-room       a list of such sums, or of parts of them, has headroom for another list or for a product of two bytes
--     row_at, row-small     where row q stands, and that its bytes are residues
--     factor-small, added-length, added       row q times its factor: a bound, and a list that it is added to from its column on
--     Held, rows_fit, held_none, held-room, held_small, held_fits, held_next, held_all      the same with part of the sums in 16 bits
--     reduced-sums          the sums reduced are the residual
-- Assumes nothing.
use mathlib.Core.Path.{◌≡◌, refl, sym, ap, ap₂, ◌∙◌}
use mathlib.Core.Bool.{Bool, true, false, cond}
use mathlib.Core.Logic.{◌⊎◌, inl, inr, ⊎_elim}
use mathlib.Core.List.{List, ◌++◌}
use Prim.Native.Nat.{ℕ, ◌+◌, ◌-◌, ◌*◌, ◌/◌, ◌%◌, ◌≤◌, ◌<◌}
use native.Mathlib.Nat.{div-mul-le_self, lt-div-mul-add, pos_of_ne-zero, mul-zero, mod-lt, le_refl, le_of_lt, mul-le-mul, mul-le-mul_right}
use native.Mathlib.Decide.{dec_lt, ℕ_discrete}
use native.Mathlib.Omega.{arith}
use lib.ListN.{length, take, drop, length-take}
use lib.Dec.{eqb, ltb}
use borrow.Author.Tests.{ne_eqb, ltb-true}
use Rattle.lists.specs.Places.{sum, tab, placed, at}
use Rattle.lists.proofs.Sums.{sum-zero, sum-next, sum-le}
use Rattle.lists.proofs.Tabs.{tab-length, tab-at, tab-ext, is-tab}
use Rattle.lists.proofs.Parts.{part_length, part_at, at-past, all-zero}
use Rattle.lists.proofs.Placing.{placed-length, placed-before, placed-within, lent_placed}
use Rattle.field.specs.Residues.{Modulus}
use Rattle.field.specs.Rows.{plus_times, remainders, Headroom}
use Rattle.field.proofs.Modular.{cong-add, sum-cong, mul-mod-l}
use Rattle.store.specs.Elimination.{ZeroRow, Reduced, residual, row_start, cells}
use Rattle.store.specs.Stages.{Ready, Line, deferred, factor, Poured}
use Rattle.store.proofs.Bytes.{cells_right}
use Rattle.store.proofs.ReducedForm.{left-zero}
use Rattle.store.proofs.RowStarts.{start-zero, start-next}
use Rattle.store.proofs.Pasting.{RowAt, row_tail, tail_at, tail-residues}

row_zero : (p C : ℕ) (S : ℕ → ℕ → ℕ) → Reduced p C S → (q : ℕ) → q < C → S q q ≡ 0 → ZeroRow C S q
row_zero p C S red q l e = ⊎_elim (λ z. z) (λ v. absurd (omega (arith, v.one))) (red.rows q l)

abbrev less : ℕ → ℕ → List ℕ → List ℕ → ℕ → ℕ → ℕ
less p C store e q j = (p - at e q) % p * cells C store q j

pub record Subtracted (p C : ℕ) (store e : List ℕ) (q begin : ℕ) (f : ℕ → ℕ) : Type 0 where
  pub within : q ≤ C
  pub begins : begin ≡ row_start C q
  pub sums : (j : ℕ) → j ≤ C → f j ≡ deferred p (cells C store) (at e) q j

pub subtracted-none : {p C : ℕ} {store e : List ℕ} (acc acc' : List ℕ) → acc ≡ tab (C + 1) (λ _. 0) → acc' ≡ plus_times 1 acc e
    → Subtracted p C store e 0 0 (at acc') × (length acc' ≡ C + 1)
unfolding deferred
subtracted-none {p} {C} {store} {e} acc acc' z h = (
  record {
    within = omega arith;
    begins = sym (start-zero C);
    sums = λ j l.
        ap (λ (xs : List ℕ). at xs j) h
        ∙ tab-at (length acc) (λ j. at acc j + 1 * at e j) 0 j (rw count (omega arith))
        ∙ omega (arith, all-zero (C + 1) acc z j, sum-zero (λ q. less p C store e q j));
  },
  ap length h ∙ tab-length (length acc) (λ j. at acc j + 1 * at e j) ∙ count,
)
  where
    count : length acc ≡ C + 1
    count = ap length z ∙ tab-length (C + 1) (λ _. 0)

pub subtracted-all : {p C : ℕ} {store e : List ℕ} {q begin : ℕ} {f : ℕ → ℕ} {acc : List ℕ} → Subtracted p C store e q begin f → C ≤ q
    → length acc ≡ C + 1 → ((j : ℕ) → j ≤ C → at acc j ≡ f j) → acc ≡ tab (C + 1) (deferred p (cells C store) (at e) C)
subtracted-all {p} {C} {store} {e} {q} {begin} {f} {acc} w h n same =
    let c : q ≡ C = omega (arith, w.within) in
    is-tab acc (C + 1) (deferred p (cells C store) (at e) C) 0 n
    (λ j l. same j (omega arith) ∙ w.sums j (omega arith) ∙ ap (λ (n : ℕ). deferred p (cells C store) (at e) n j) c)

module _ {p C : ℕ} {store e : List ℕ} (ready : Ready p C store) (line : Line p C e) where
  pos : 0 < p
  pos = omega (arith, ready.modulus.0)

  small : (q j : ℕ) → q ≤ C → j ≤ C → deferred p (cells C store) (at e) q j + 65535 < 4294967296
  unfolding deferred
  small q j l k =
      omega (arith, line.residues j, ready.modulus.1, sum-le (λ q. less p C store e q j) (250 * 250) q term, mul-le-mul_right 62500 bound)
    where
      bound : q ≤ 1024
      bound = omega (arith, ready.limit)

      term : (i : ℕ) → i < q → less p C store e i j ≤ 250 * 250
      term i h =
          let a : (p - at e i) % p ≤ 250 = omega (arith, mod-lt (p - at e i) pos, ready.modulus.1) in
          let b : cells C store i j ≤ 250 = omega (arith, ready.reduced.residues i j (omega arith) k, ready.modulus.1) in
          mul-le-mul a b

  module _ {q begin : ℕ} {f : ℕ → ℕ} (w : Subtracted p C store e q begin f) where
    pub subtracted-room : (k : ℕ) → k ≤ 65535 → (acc : List ℕ) → length acc ≡ C + 1 → ((j : ℕ) → j ≤ C → at acc j ≤ f j) → Headroom k acc
    subtracted-room k most acc n h i = elim (dec_lt i (C + 1)) [
      | yes l ↦ omega (arith, h i (omega arith), w.sums i (omega arith), small q i w.within (omega arith))
      | no l ↦ rw (at-past acc i (omega arith)) (omega arith)
    ]

    module _ (l : q < C) where
      pub row_at : RowAt C store q begin
      row_at = record { size = ready.places; inside = l; begins = w.begins }

      pub row-small : (j : ℕ) → at (row_tail C store begin q) j < p
      row-small = tail-residues row_at (le_refl q) (le_of_lt l) p pos (λ j k. ready.reduced.residues q j l k)

      pub subtracted-next : (f' : ℕ → ℕ) → ((j : ℕ) → j ≤ C → f' j ≡ f j + less p C store e q j)
          → Subtracted p C store e (q + 1) (begin + (C - q)) f'
      unfolding deferred
      subtracted-next f' h =
          record {
            within = omega arith;
            begins = omega (arith, w.begins, start-next C q);
            sums = λ j k. omega (arith, h j k, w.sums j k, sum-next (λ q. less p C store e q j) q);
          }

      module _ (g : ℕ) (eg : g ≡ factor p (at e q) (at store (begin + q))) where
        times : (j : ℕ) → j ≤ C → g * cells C store q j ≡ less p C store e q j
        unfolding factor
        times j k = elim (ℕ_discrete (cells C store q q) 0) [
          | yes z ↦ rw (row_zero p C (cells C store) ready.reduced q l z j k, mul-zero g) (sym (mul-zero ((p - at e q) % p)))
          | no d ↦
              let here = ap (λ (i : ℕ). at store (i + q)) w.begins ∙ sym (cells_right C store q q (le_refl q)) in
              ap (λ (n : ℕ). n * cells C store q j) (eg ∙ rw (here, ne_eqb (cells C store q q) 0 d))
        ]

        pub factor-small : (j : ℕ) → g * at (row_tail C store begin q) j ≤ p * p
        unfolding factor
        factor-small j = mul-le-mul low (le_of_lt (row-small j))
          where
            none_or : (b : Bool) (x : ℕ) → x < p → cond b 0 x ≤ p
            none_or true x h = omega arith
            none_or false x h = le_of_lt h

            low : g ≤ p
            low = rw eg (none_or (eqb (at store (begin + q)) 0) ((p - at e q) % p) (mod-lt (p - at e q) pos))

        module _ (xs ys : List ℕ) (n : length xs ≡ C + 1) (h : ys ≡ plus_times g (take (C + 1 - q) (drop q xs)) (row_tail C store begin q)) where
          cut : length (take (C + 1 - q) (drop q xs)) ≡ C + 1 - q
          cut = part_length xs q (C + 1 - q) (omega (arith, n))

          count : length ys ≡ C + 1 - q
          count =
              ap length h
              ∙ tab-length (length (take (C + 1 - q) (drop q xs))) (λ j. at (take (C + 1 - q) (drop q xs)) j + g * at (row_tail C store begin q) j)
              ∙ cut

          place : (i : ℕ) → i < C + 1 - q → at ys i ≡ at xs (q + i) + g * cells C store q (q + i)
          place i k =
              ap (λ (xs : List ℕ). at xs i) h
              ∙ tab-at (length (take (C + 1 - q) (drop q xs))) (λ j. at (take (C + 1 - q) (drop q xs)) j + g * at (row_tail C store begin q) j) 0 i (rw cut k)
              ∙ ap₂ (λ (a b : ℕ). a + g * b) (part_at xs q (C + 1 - q) i k) (tail_at row_at (le_refl q) (le_of_lt l) i k)

          room : q + length ys ≤ length xs
          room = omega (arith, n, count)

          overwritten : take q xs ++ (ys ++ drop (C + 1 - q) (drop q xs)) ≡ placed xs q ys
          overwritten = lent_placed xs q (C + 1 - q) ys count

          pub added-length : length (take q xs ++ (ys ++ drop (C + 1 - q) (drop q xs))) ≡ C + 1
          added-length = ap length overwritten ∙ placed-length xs q ys room ∙ n

          pub added : (j : ℕ) → j ≤ C → at (take q xs ++ (ys ++ drop (C + 1 - q) (drop q xs))) j ≡ at xs j + less p C store e q j
          added j k = ap (λ (zs : List ℕ). at zs j) overwritten ∙ elim (dec_lt j q) [
            | yes b ↦
                placed-before xs q ys room j b
                ∙ omega (arith, mul-zero ((p - at e q) % p), ap (λ (x : ℕ). (p - at e q) % p * x) (left-zero p C (cells C store) ready.reduced q j l b))
            | no b ↦
                let i : q + (j - q) ≡ j = omega arith in
                ap (at (placed xs q ys)) (sym i)
                ∙ placed-within xs q ys room (j - q) (rw count (omega arith))
                ∙ place (j - q) (omega arith)
                ∙ ap₂ (λ (a b : ℕ). at xs a + g * cells C store q b) i i
                ∙ ap (λ (x : ℕ). at xs j + x) (times j k)
          ]

-- the sums in two lists, the second of 16 bits with room for left rows
pub record Held (p C : ℕ) (store e : List ℕ) (q begin left : ℕ) (acc short : List ℕ) : Type 0 where
  pub both : Subtracted p C store e q begin (λ j. at acc j + at short j)
  pub wide : length acc ≡ C + 1
  pub narrow : length short ≡ C + 1
  pub room : (j : ℕ) → at short j + left * (p * p) < 65536

-- as many rows as 16 bits have room for
pub rows_fit : (p : ℕ) → Modulus p → (0 < 65535 / (p * p)) × (65535 / (p * p) * (p * p) < 65536)
rows_fit p m =
    let low : 2 * 2 ≤ p * p = mul-le-mul m.0 m.0 in
    let high : p * p ≤ 251 * 251 = mul-le-mul m.1 m.1 in
    let pos : 0 < p * p = omega arith in (
      pos_of_ne-zero (λ z. omega (arith, lt-div-mul-add {a = 65535} pos, ap (λ (n : ℕ). n * (p * p)) z)),
      omega (arith, div-mul-le_self 65535 (p * p)),
    )

pub held_none : {p C : ℕ} {store e : List ℕ} (acc acc' short : List ℕ) (rows : ℕ) → acc ≡ tab (C + 1) (λ _. 0) → acc' ≡ plus_times 1 acc e
    → short ≡ tab (C + 1) (λ _. 0) → rows * (p * p) < 65536 → Held p C store e 0 0 rows acc' short
held_none {p} {C} {store} {e} acc acc' short rows za h z fits =
    let s = subtracted-none {p = p} {C = C} {store = store} {e = e} acc acc' za h in
    record {
      both = record { within = omega arith; begins = s.0.begins; sums = λ j l. omega (arith, all-zero (C + 1) short z j, s.0.sums j l) };
      wide = s.1;
      narrow = ap length z ∙ tab-length (C + 1) (λ _. 0);
      room = λ j. omega (arith, all-zero (C + 1) short z j);
    }

module _ {p C : ℕ} {store e : List ℕ} {q begin left : ℕ} {acc short : List ℕ} (w : Held p C store e q begin left acc short) where
  poured-at : (j : ℕ) → j ≤ C → at (plus_times 1 acc short) j ≡ at acc j + at short j
  poured-at j l = tab-at (length acc) (λ j. at acc j + 1 * at short j) 0 j (rw w.wide (omega arith)) ∙ omega arith

  poured-length : length (plus_times 1 acc short) ≡ C + 1
  poured-length = tab-length (length acc) (λ j. at acc j + 1 * at short j) ∙ w.wide

  -- the two cases of making room
  poured-cases : (rows r : ℕ) (acc' short' : List ℕ) → Poured acc short left rows acc' short' r
      → ((0 < left) × (r ≡ left) × (acc' ≡ acc) × (short' ≡ short)) ⊎ ((r ≡ rows) × (acc' ≡ plus_times 1 acc short) × (short' ≡ tab (length short) (λ _. 0)))
  poured-cases rows r acc' short' h = by (ltb 0 left) refl h.0 h.1 h.2
    where
      by : (b : Bool) → ltb 0 left ≡ b → r ≡ cond b left rows → acc' ≡ cond b acc (plus_times 1 acc short) → short' ≡ cond b short (tab (length short) (λ _. 0))
          → ((0 < left) × (r ≡ left) × (acc' ≡ acc) × (short' ≡ short)) ⊎ ((r ≡ rows) × (acc' ≡ plus_times 1 acc short) × (short' ≡ tab (length short) (λ _. 0)))
      by true e x y z = inl (ltb-true 0 left e, x, y, z)
      by false e x y z = inr (x, y, z)

  pub held-room : (rows : ℕ) (acc' short' : List ℕ) (r : ℕ) → 0 < rows → rows * (p * p) < 65536 → Poured acc short left rows acc' short' r
      → Held p C store e q begin r acc' short' × (0 < r)
  held-room rows acc' short' r some fits h = ⊎_elim
      (λ a. (rw (a.1, a.2, a.3) w, rw a.1 a.0))
      (λ a. (
        record {
          both = record {
            within = w.both.within;
            begins = w.both.begins;
            sums = λ j l. ap (λ (xs : List ℕ). at xs j + at short' j) a.1 ∙ omega (arith, poured-at j l, all-zero (length short) short' a.2 j, w.both.sums j l);
          };
          wide = ap length a.1 ∙ poured-length;
          narrow = ap length a.2 ∙ tab-length (length short) (λ _. 0) ∙ w.narrow;
          room = λ j. rw a.0 (omega (arith, all-zero (length short) short' a.2 j));
        },
        rw a.0 some,
      ))
      (poured-cases rows r acc' short' h)

  pub held_all : C ≤ q → (acc' : List ℕ) → acc' ≡ plus_times 1 acc short → acc' ≡ tab (C + 1) (deferred p (cells C store) (at e) C)
  held_all h acc' k = subtracted-all w.both h (ap length k ∙ poured-length) (λ j l. ap (λ (xs : List ℕ). at xs j) k ∙ poured-at j l)

  module _ (ready : Ready p C store) (line : Line p C e) where
    pub held_small : Headroom 65535 acc
    held_small = subtracted-room ready line w.both 65535 (omega arith) acc w.wide (λ j l. omega arith)

    module _ (l : q < C) (g : ℕ) (eg : g ≡ factor p (at e q) (at store (begin + q))) (some : 0 < left) where
      product : (j : ℕ) → g * at (row_tail C store begin q) j ≤ p * p
      product = factor-small ready line w.both l g eg

      less-room : p * p ≤ left * (p * p)
      less-room = omega (arith, mul-le-mul_right (p * p) some)

      pub held_fits : (j : ℕ) → at (take (C + 1 - q) (drop q short)) j + g * at (row_tail C store begin q) j < 65536
      held_fits j = elim (dec_lt j (C + 1 - q)) [
        | yes k ↦ omega (arith, part_at short q (C + 1 - q) j k, w.room (q + j), product j, less-room)
        | no k ↦ omega (arith, at-past (take (C + 1 - q) (drop q short)) j (rw length-take (omega arith)), w.room 0, product j, less-room)
      ]

      pub held_next : (ys : List ℕ) → ys ≡ plus_times g (take (C + 1 - q) (drop q short)) (row_tail C store begin q)
          → Held p C store e (q + 1) (begin + (C - q)) (left - 1) acc (take q short ++ (ys ++ drop (C + 1 - q) (drop q short)))
      held_next ys h =
          record {
            both = subtracted-next ready line w.both l (λ j. at acc j + at short' j) (λ j k. omega (arith, sum j k));
            wide = w.wide;
            narrow = size;
            room = λ j. elim (dec_lt j (C + 1)) [
              | yes k ↦ omega (arith, sum j (omega arith), w.room j, small j (omega arith), one_less)
              | no k ↦ omega (arith, at-past short' j (omega (arith, size)), w.room 0, one_less)
            ];
          }
        where
          short' : List ℕ
          short' = take q short ++ (ys ++ drop (C + 1 - q) (drop q short))

          size : length short' ≡ C + 1
          size = added-length ready line w.both l g eg short ys w.narrow h

          one_less : (left - 1) * (p * p) + p * p ≡ left * (p * p)
          one_less = let k : left - 1 + 1 ≡ left = omega arith in omega (arith, ap (λ (n : ℕ). n * (p * p)) k)

          small : (j : ℕ) → j ≤ C → less p C store e q j ≤ p * p
          small j k = mul-le-mul (le_of_lt (mod-lt (p - at e q) (omega (arith, ready.modulus.0)))) (le_of_lt (ready.reduced.residues q j l k))

          sum : (j : ℕ) → j ≤ C → at short' j ≡ at short j + less p C store e q j
          sum = added ready line w.both l g eg short ys w.narrow h

pub reduced-sums : (p C : ℕ) (S : ℕ → ℕ → ℕ) (e : ℕ → ℕ) (acc : List ℕ) → acc ≡ tab (C + 1) (deferred p S e C)
    → remainders p acc ≡ tab (C + 1) (residual p C S e)
unfolding deferred residual
reduced-sums p C S e acc h =
    ap (remainders p) h
    ∙ ap (λ (n : ℕ). tab n (λ j. at (tab (C + 1) (deferred p S e C)) j % p)) (tab-length (C + 1) (deferred p S e C))
    ∙ tab-ext (C + 1) (λ j. at (tab (C + 1) (deferred p S e C)) j % p) (residual p C S e) 0
    (λ j l.
    ap (λ (n : ℕ). n % p) (tab-at (C + 1) (deferred p S e C) 0 j l)
    ∙ cong-add p (e j) (e j) (sum (λ q. (p - e q) % p * S q j) C) (sum (λ q. (p - e q) * S q j) C) refl
    (sum-cong p (λ q. (p - e q) % p * S q j) (λ q. (p - e q) * S q j) C (λ q k. mul-mod-l (p - e q) (S q j) p)))
