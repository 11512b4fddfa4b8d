-- A list of numbers as pairs of them, and what `find` and `well_listed` tell of these.
--     chunked                   the pairs, two numbers each
--     first-listed              where an entry is listed the first pair of it is
--     well                      each entry and value in range, no entry twice, and none of them marked: what `well_listed` still has to tell
--     well-start, well-next, well-high, well-value, well-marked, well-none       as it goes on, and as it stops
--     and-regroup               a law of `&&`
-- Assumes nothing.
use mathlib.Core.Path.{◌≡◌, refl, sym, ap, ap₂, ◌∙◌}
use mathlib.Core.Bool.{Bool, true, false, cond, not, ◌&&◌, and-false}
use mathlib.Core.List.{List, [], ◌∷◌}
use mathlib.Core.Logic.{◌≢◌}
use Prim.Native.Nat.{ℕ, zero, suc, ◌+◌, ◌*◌, ◌≤◌, ◌<◌}
use native.Mathlib.Decide.{ℕ_discrete}
use native.Mathlib.Omega.{arith}
use lib.Dec.{eqb}
use lib.ListN.{length, take, drop, set, replicate}
use lib.Seq.{get_or-set_same, get_or-set_other}
use borrow.Author.Tests.{eq-eqb, ne_eqb, le-ltb, lt-ltb}
use Rattle.std.specs.Prelude.{◌==◌}
use Rattle.std.specs.List.{position_or_len}
use Rattle.std.specs.Simd.{first_chunks}
use Rattle.std.proofs.lemmas.List.{get_or-take, get_or-drop, drop-drop, length-map}
use Rattle.std.proofs.lemmas.List.Recursion.{is_position_or_len}
use Rattle.lists.specs.Places.{at}
use Rattle.ledger.specs.Lists.{Pair, has, distinct, place_of}
use Rattle.ledger.specs.Stages.{pairs_from, pairs, as_pair, as_pairs, first_at, ranged, unseen}
use Rattle.ledger.proofs.Places.{has-below, listed_at}

pub and-regroup : (a b c : Bool) → (a && (b && c)) ≡ ((a && b) && c)
and-regroup true b c = refl
and-regroup false b c = refl

-- ---- two numbers each
chunks-from : (count k n : ℕ) (list : List ℕ) → count ≤ n → as_pairs (take count (first_chunks 2 n (drop (2 * k) list))) ≡ pairs_from count k list
unfolding pairs_from
chunks-from zero k n list h = refl
chunks-from (suc count) k zero list h = absurd (omega arith)
chunks-from (suc count) k (suc n) list h =
    let left : List ℕ = drop (2 * k) list in
    let first : at (take 2 left) 0 ≡ at list (2 * k) =
    get_or-take 2 left 0 0 (omega arith) ∙ get_or-drop (2 * k) list 0 0 ∙ (let e : 2 * k + 0 ≡ 2 * k = omega arith in ap (at list) e) in
    let second : at (take 2 left) 1 ≡ at list (2 * k + 1) = get_or-take 2 left 1 0 (omega arith) ∙ get_or-drop (2 * k) list 1 0 in
    let next : 2 * k + 2 ≡ 2 * (k + 1) = omega arith in
    ap₂ (λ (x : Pair) (l : List Pair). x ∷ l) (ap₂ (λ (a b : ℕ). (a, b)) first second)
    (ap (λ (l : List ℕ). as_pairs (take count (first_chunks 2 n l))) (drop-drop 2 (2 * k) list ∙ ap (λ (j : ℕ). drop j list) next)
    ∙ chunks-from count (k + 1) n list (omega arith))

pub chunked : (count n : ℕ) (list : List ℕ) → count ≤ n → as_pairs (take count (first_chunks 2 n list)) ≡ pairs count list
chunked count n list h = chunks-from count 0 n list h

-- ---- the place of an entry
place-is : (i : ℕ) (xs : List (List ℕ)) → place_of (as_pairs xs) i ≡ position_or_len (λ x. at x 0 == i) xs
unfolding place_of
place-is i xs = is_position_or_len (λ (l : List (List ℕ)). place_of (as_pairs l) i) (λ x. at x 0 == i) refl after xs
  where
    after : (x : List ℕ) (l : List (List ℕ)) → place_of (as_pairs (x ∷ l)) i ≡ cond (at x 0 == i) 0 (1 + place_of (as_pairs l) i)
    after x l = let e : suc (place_of (as_pairs l) i) ≡ 1 + place_of (as_pairs l) i = omega arith in ap (λ (n : ℕ). cond (at x 0 == i) 0 n) e

pub first-listed : (i : ℕ) (xs : List (List ℕ)) → first_at xs i ≡ listed_at (as_pairs xs) i
first-listed i xs = rw (has-below (as_pairs xs) i, place-is i xs, length-map xs as_pair) refl

-- ---- entries and values in range, and no entry twice
abbrev pub well : ℕ → ℕ → List ℕ → List Pair → Bool
well n s marks l = ranged n s l && (unseen marks l && distinct l)

all-unseen : (j : ℕ) (l : List Pair) → unseen (replicate j 0) l ≡ true
unfolding unseen
all-unseen j [] = refl
all-unseen j (x ∷ l) = rw (eq-eqb (at (replicate j 0) x.0) 0 (unmarked j x.0)) (all-unseen j l)
  where
    unmarked : (j i : ℕ) → at (replicate j 0) i ≡ 0
    unmarked zero i = refl
    unmarked (suc j) zero = refl
    unmarked (suc j) (suc i) = unmarked j i

pub well-start : (n s j : ℕ) (l : List Pair) → well n s (replicate j 0) l ≡ (ranged n s l && distinct l)
well-start n s j l = rw (all-unseen j l)

-- a mark more: what it was, and the entry not among the rest
marked : (marks : List ℕ) (i : ℕ) (l : List Pair) → i < length marks → unseen (set marks i 1) l ≡ (unseen marks l && not (has l i))
unfolding unseen has
marked marks i [] h = refl
marked marks i (x ∷ l) h = elim (ℕ_discrete x.0 i) [
  | yes e ↦ rw (e, get_or-set_same marks i 1 0 h, eq-eqb i i refl) (sym (and-false (eqb (at marks i) 0 && unseen marks l)))
  | no d ↦ rw (get_or-set_other marks i x.0 1 0 d, ne_eqb x.0 i d, marked marks i l h) (and-regroup (eqb (at marks x.0) 0) (unseen marks l) (not (has l i)))
]

module _ (n s : ℕ) (marks : List ℕ) (x : Pair) (l : List Pair) where
  pub well-high : n ≤ x.0 → well n s marks (x ∷ l) ≡ false
  unfolding ranged
  well-high h = rw (le-ltb x.0 n h)

  pub well-value : x.0 < n → s ≤ x.1 → well n s marks (x ∷ l) ≡ false
  unfolding ranged
  well-value h g = rw (lt-ltb x.0 n h, le-ltb x.1 s g)

  pub well-marked : at marks x.0 ≢ 0 → well n s marks (x ∷ l) ≡ false
  unfolding unseen
  well-marked d = rw (ne_eqb (at marks x.0) 0 d) (and-false (ranged n s (x ∷ l)))

  pub well-next : x.0 < n → x.1 < s → n ≤ length marks → at marks x.0 ≡ 0 → well n s marks (x ∷ l) ≡ well n s (set marks x.0 1) l
  unfolding ranged unseen distinct
  well-next h g room e =
      rw (lt-ltb x.0 n h, lt-ltb x.1 s g, eq-eqb (at marks x.0) 0 e, marked marks x.0 l (omega arith))
      (ap (λ (b : Bool). ranged n s l && b) (and-regroup (unseen marks l) (not (has l x.0)) (distinct l)))

pub well-none : (n s : ℕ) (marks : List ℕ) → well n s marks [] ≡ true
unfolding ranged unseen distinct
well-none n s marks = refl
