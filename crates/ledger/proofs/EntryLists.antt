-- Lists of pairs: which entries are listed, lists that name no entry twice, and what is left without one; and the records that stand for them.
--     mem-has, value-mem                 an entry is listed exactly when a pair of it is, and then with its value; `absent` and `not-mem` are the
--                                        same denied
--     distinct_snoc, distinct_without    one more entry, and one less
--     without-mem                        the pairs that are left
--     without-place                      what is left is the list without one place
--     short                              a list of entries below N that lacks one of them is shorter than N
--     pairs_of records count             the pairs of the first count records
--     pairs-length, pairs-joined, pairs-removed         how many they are, and they after an entry joins, and after one is removed
--     removed-length                     as many records as before
-- Assumes nothing.
use mathlib.Core.Path.{◌≡◌, refl, sym, ap, ap₂, ◌∙◌}
use mathlib.Core.Bool.{Bool, true, false, not, true≢false, false≢true}
use mathlib.Core.Logic.{⊎_elim, ◌↔◌, ◌≢◌}
use mathlib.Core.List.Memᴰ
use mathlib.Core.List.{List, [], ◌∷◌, ◌++◌, map, map-append, append_assoc, Memᴰ}
use Prim.Native.Nat.{ℕ, zero, suc, ◌+◌, ◌-◌, ◌≤◌, ◌<◌}
use native.Mathlib.Nat.{not-suc-le-zero}
use native.Mathlib.Decide.{ℕ_discrete}
use native.Mathlib.Numerals.{add-one}
use native.Mathlib.Omega.{arith}
use lib.Dec.{eqb}
use lib.ListN.{length, take, drop, set, length-append, length-drop, length-map}
use lib.Seq.{take-suc-set, take_at, take-take, length-take-le}
use borrow.Author.Tests.{eq-eqb, ne_eqb, not-true}
use Rattle.lists.proofs.Tests.{both, both_true, refute}
use Rattle.records.specs.declared.Record.{Record}
use Rattle.records.specs.Listed.{none, record_of, removed}
use Rattle.ledger.specs.Lists.{Pair, has, distinct, place_of, value_of, without}
use Rattle.ledger.specs.Calls.{pair_of}

-- the test of an entry, by cases
by-entry : (x i : ℕ) {B : Type 0} → (x ≡ i → eqb x i ≡ true → B) → (x ≢ i → eqb x i ≡ false → B) → B
by-entry x i f g = elim (ℕ_discrete x i) [
  | yes e ↦ f e (eq-eqb x i e)
  | no d ↦ g d (ne_eqb x i d)
]

pub mem-has : (l : List Pair) (i v : ℕ) → Memᴰ (i, v) l → has l i ≡ true
unfolding has
mem-has [] i v m = absurd (Memᴰ.not-nil m)
mem-has (x ∷ l) i v m = by-entry x.0 i
    (λ e t. rw t)
    (λ d t. rw t (⊎_elim (λ (e : ◌≡◌ {A = Pair} (i, v) x). absurd (d (sym (ap (λ (y : Pair). y.0) e)))) (mem-has l i v) (Memᴰ.cases_cons m)))

pub value-mem : (l : List Pair) (i : ℕ) → has l i ≡ true → Memᴰ (i, value_of l i) l
unfolding has value_of
value-mem [] i h = absurd (false≢true h)
value-mem (x ∷ l) i h = by-entry x.0 i
    (λ e t. rw t (Memᴰ.head (ap (λ (n : ℕ). (n, x.1)) (sym e))))
    (λ d t. rw t (Memᴰ.tail (value-mem l i (rw t at h))))

absent : (l : List Pair) (i : ℕ) → ((v : ℕ) → Memᴰ (i, v) l → ⊥) → has l i ≡ false
absent l i none = refute (has l i) (λ h. none (value_of l i) (value-mem l i h))

not-mem : (l : List Pair) (i : ℕ) → has l i ≡ false → (v : ℕ) → Memᴰ (i, v) l → ⊥
not-mem l i h v m = true≢false (sym (mem-has l i v m) ∙ h)

pub distinct_snoc : (l : List Pair) (i v : ℕ) → distinct l ≡ true → has l i ≡ false → distinct (l ++ ((i, v) ∷ [])) ≡ true
unfolding distinct has
distinct_snoc [] i v h n = refl
distinct_snoc (x ∷ l) i v h n =
    let b = both_true (not (has l x.0)) (distinct l) h in
    by-entry x.0 i
    (λ e t. absurd (true≢false (rw t at n)))
    (λ d t.
    both (not (has (l ++ ((i, v) ∷ [])) x.0)) (distinct (l ++ ((i, v) ∷ [])))
    (ap not (absent (l ++ ((i, v) ∷ [])) x.0
    (λ u m. ⊎_elim (not-mem l x.0 (not-true (has l x.0) b.0) u) (λ k. d (ap (λ (y : Pair). y.0) (Memᴰ.eq_of_singleton k))) (Memᴰ.append_cases l m))))
    (distinct_snoc l i v b.1 (rw t at n)))

-- what is left
pub without-mem : (l : List Pair) (i j u : ℕ) → Memᴰ (j, u) (without l i) ↔ (Memᴰ (j, u) l × (j ≢ i))
unfolding without
without-mem [] i j u = ((λ m. absurd (Memᴰ.not-nil m)), (λ m. m.0))
without-mem (x ∷ l) i j u = by-entry x.0 i
    (λ e t. rw t (
      (λ m. let r = (without-mem l i j u).0 m in (Memᴰ.tail r.0, r.1)),
      (λ m. ⊎_elim (λ (q : ◌≡◌ {A = Pair} (j, u) x). absurd (m.1 (ap (λ (y : Pair). y.0) q ∙ e))) (λ k. (without-mem l i j u).1 (k, m.1)) (Memᴰ.cases_cons m.0)),
    ))
    (λ d t. rw t (
      (λ m. ⊎_elim
          (λ (q : ◌≡◌ {A = Pair} (j, u) x). (Memᴰ.head q, λ e. d (sym (ap (λ (y : Pair). y.0) q) ∙ e)))
          (λ k. let r = (without-mem l i j u).0 k in (Memᴰ.tail r.0, r.1))
          (Memᴰ.cases_cons m)),
      (λ m. ⊎_elim (λ (q : ◌≡◌ {A = Pair} (j, u) x). Memᴰ.head q) (λ k. Memᴰ.tail ((without-mem l i j u).1 (k, m.1))) (Memᴰ.cases_cons m.0)),
    ))

pub distinct_without : (l : List Pair) (i : ℕ) → distinct l ≡ true → distinct (without l i) ≡ true
unfolding distinct without
distinct_without [] i h = refl
distinct_without (x ∷ l) i h =
    let b = both_true (not (has l x.0)) (distinct l) h in
    by-entry x.0 i
    (λ e t. rw t (distinct_without l i b.1))
    (λ d t. rw t
    (both (not (has (without l i) x.0)) (distinct (without l i))
    (ap not (absent (without l i) x.0 (λ u m. not-mem l x.0 (not-true (has l x.0) b.0) u ((without-mem l i x.0 u).0 m).0))) (distinct_without l i b.1)))

-- an entry that is not listed takes nothing away
without-none : (l : List Pair) (i : ℕ) → has l i ≡ false → without l i ≡ l
unfolding has without
without-none [] i h = refl
without-none (x ∷ l) i h = by-entry x.0 i
    (λ e t. absurd (true≢false (rw t at h)))
    (λ d t. rw t (ap (λ (k : List Pair). x ∷ k) (without-none l i (rw t at h))))

pub without-place : (l : List Pair) (i : ℕ) → distinct l ≡ true → has l i ≡ true
    → (place_of l i < length l) × (without l i ≡ take (place_of l i) l ++ drop (suc (place_of l i)) l)
unfolding distinct has without place_of
without-place [] i h n = absurd (false≢true n)
without-place (x ∷ l) i h n =
    let b = both_true (not (has l x.0)) (distinct l) h in
    by-entry x.0 i
    (λ e t. rw t (omega arith, without-none l i (ap (has l) (sym e) ∙ not-true (has l x.0) b.0)))
    (λ d t.
    let r = without-place l i b.1 (rw t at n) in
    rw t (omega (arith, r.0), ap (λ (k : List Pair). x ∷ k) r.1))

length_without : (l : List Pair) (i : ℕ) → distinct l ≡ true → length l ≤ length (without l i) + 1
length_without l i h = by (has l i) refl
  where
    by : (b : Bool) → has l i ≡ b → length l ≤ length (without l i) + 1
    by true e =
        let r = without-place l i h e in
        let n = length-take-le (place_of l i) l (omega (arith, r.0)) in
        omega (arith, ap length r.1, length-append (take (place_of l i) l) (drop (suc (place_of l i)) l), n, length-drop (suc (place_of l i)) l)
    by false e = rw (without-none l i e) (omega arith)

-- there are at most N entries below N
few : (N : ℕ) (l : List Pair) → distinct l ≡ true → ((j u : ℕ) → Memᴰ (j, u) l → j < N) → length l ≤ N
few zero [] h b = omega arith
few zero (x ∷ l) h b = absurd (not-suc-le-zero (b x.0 x.1 (Memᴰ.head refl)))
few (suc N) l h b =
    let rest = few N (without l N) (distinct_without l N h)
    (λ j u m. let r = (without-mem l N j u).0 m in let k = b j u r.0 in let d = r.1 in omega arith) in
    omega (arith, length_without l N h, rest)

pub short : (N : ℕ) (l : List Pair) (i : ℕ) → distinct l ≡ true → ((j u : ℕ) → Memᴰ (j, u) l → j < N) → i < N → has l i ≡ false → length l < N
unfolding distinct
short N l i h b li n =
    few N ((i, 0) ∷ l) (rw n h) (λ j u m. ⊎_elim (λ (q : ◌≡◌ {A = Pair} (j, u) (i, 0)). let e : j ≡ i = ap (λ (y : Pair). y.0) q in rw e li) (b j u) (Memᴰ.cases_cons m))

-- the records: the pairs of the first count of them, as `listed` takes them
abbrev pub pairs_of : List Record → ℕ → List Pair
pairs_of records count = map pair_of (take count records)

pub pairs-length : (records : List Record) (count : ℕ) → count ≤ length records → length (pairs_of records count) ≡ count
pairs-length records count fits = length-map (take count records) pair_of ∙ length-take-le count records fits

pub pairs-joined : (records : List Record) (count i v : ℕ) → count < length records
    → pairs_of (set records count (record_of i v)) (count + 1) ≡ pairs_of records count ++ ((i, v) ∷ [])
pairs-joined records count i v h =
    ap (pairs_of (set records count (record_of i v))) (add-one count)
    ∙ ap (map pair_of) (take-suc-set records count (record_of i v) h)
    ∙ map-append pair_of (take count records) (record_of i v ∷ [])

map-cut : (n : ℕ) (l : List Record) → (map pair_of (take n l) ≡ take n (map pair_of l)) × (map pair_of (drop n l) ≡ drop n (map pair_of l))
map-cut zero l = (refl, refl)
map-cut (suc n) [] = (refl, refl)
map-cut (suc n) (x ∷ l) = let r = map-cut n l in (ap (λ (k : List Pair). pair_of x ∷ k) r.0, r.1)

module _ (records : List Record) (count k : ℕ) (h : k < count) (fits : count ≤ length records) where
  abbrev front : List Record
  front = take k records

  abbrev behind : List Record
  behind = drop (suc k) (take count records)

  front_length : length front ≡ k
  front_length = length-take-le k records (omega arith)

  behind-length : length behind ≡ count - suc k
  behind-length = length-drop (suc k) (take count records) ∙ ap (λ (n : ℕ). n - suc k) (length-take-le count records fits)

  pub pairs-removed : pairs_of (removed records count k) (count - 1) ≡ take k (pairs_of records count) ++ drop (suc k) (pairs_of records count)
  pairs-removed =
      ap (λ (l : List Record). pairs_of l (count - 1)) (sym (append_assoc front behind (none ∷ drop count records)))
      ∙ ap (map pair_of)
      (take_at (front ++ behind) (none ∷ drop count records) (count - 1) (omega (arith, length-append front behind, front_length, behind-length)))
      ∙ map-append pair_of front behind
      ∙ ap₂ (λ (a b : List Pair). a ++ b)
      (ap (map pair_of) (sym (take-take k count records (omega arith))) ∙ (map-cut k (take count records)).0) (map-cut (suc k) (take count records)).1

  pub removed-length : length (removed records count k) ≡ length records
  removed-length =
      omega (
        arith,
        length-append front (behind ++ (none ∷ drop count records)),
        length-append behind (none ∷ drop count records),
        front_length,
        behind-length,
        length-drop count records,
      )
