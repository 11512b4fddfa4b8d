-- The records as a list of numbers: the covered calls read from it the pairs that the records are.
--     unpacked-listed     the first count pairs of the unpacked records are the listed pairs
-- Assumes nothing.
use mathlib.Core.Path.{◌≡◌, refl, sym, ap, ap₂, ◌∙◌}
use mathlib.Core.List.{List, ◌∷◌, map}
use Prim.Native.Nat.{ℕ, zero, suc, ◌+◌, ◌*◌, ◌/◌, ◌≤◌, ◌<◌}
use native.Mathlib.Decide.{ℕ_discrete}
use native.Mathlib.Numerals.{add-one}
use native.Mathlib.Omega.{arith}
use lib.ListN.{length, take, drop, set, get_or, length-set}
use lib.Seq.{get_or-set_same, get_or-set_other, drop-cons}
use borrow.Author.Tests.{lt-ltb}
use Rattle.lists.specs.Places.{at}
use Rattle.records.specs.declared.Record.{Record}
use Rattle.records.specs.Listed.{none, noted, unpacked}
use Rattle.ledger.specs.Lists.{Pair}
use Rattle.ledger.specs.Calls.{filled, pair_of, listed}
use Rattle.ledger.specs.Stages.{pairs_from, pairs}

-- place j of the pairs of a list
abbrev pair_at : List ℕ → ℕ → Pair
pair_at s j = (at s (2 * j), at s (2 * j + 1))

noted-is : (s : List ℕ) (i e v : ℕ) → 2 * (i + 1) ≤ length s → noted s i e v ≡ set (set s (2 * i) e) (2 * i + 1) v
unfolding noted
noted-is s i e v room = rw (lt-ltb i (length s / 2) (omega (arith, room))) refl

noted-length : (s : List ℕ) (i e v : ℕ) → 2 * (i + 1) ≤ length s → length (noted s i e v) ≡ length s
noted-length s i e v room = ap length (noted-is s i e v room) ∙ length-set (set s (2 * i) e) (2 * i + 1) v ∙ length-set s (2 * i) e

noted_here : (s : List ℕ) (i e v : ℕ) → 2 * (i + 1) ≤ length s → pair_at (noted s i e v) i ≡ (e, v)
noted_here s i e v room =
    ap (λ (l : List ℕ). pair_at l i) (noted-is s i e v room)
    ∙ ap₂ (λ (a b : ℕ). (a, b))
    (get_or-set_other (set s (2 * i) e) (2 * i + 1) (2 * i) v 0 (λ q. omega (arith, q)) ∙ get_or-set_same s (2 * i) e 0 (omega (arith, room)))
    (get_or-set_same (set s (2 * i) e) (2 * i + 1) v 0 (omega (arith, room, length-set s (2 * i) e)))

noted-else : (s : List ℕ) (i j e v : ℕ) → 2 * (i + 1) ≤ length s → j < i → pair_at (noted s i e v) j ≡ pair_at s j
noted-else s i j e v room less =
    ap (λ (l : List ℕ). pair_at l j) (noted-is s i e v room)
    ∙ ap₂ (λ (a b : ℕ). (a, b))
    (get_or-set_other (set s (2 * i) e) (2 * i + 1) (2 * j) v 0 (λ q. omega (arith, q, less)) ∙ get_or-set_other s (2 * i) (2 * j) e 0 (λ q. omega (arith, q, less)))
    (get_or-set_other (set s (2 * i) e) (2 * i + 1) (2 * j + 1) v 0 (λ q. omega (arith, q, less)) ∙ get_or-set_other s (2 * i) (2 * j + 1) e 0 (λ q. omega (arith, q, less)))

before : (k i : ℕ) (l : List Record) (s : List ℕ) (j : ℕ) → 2 * (i + k) ≤ length s → j < i → pair_at (unpacked k i l s) j ≡ pair_at s j
unfolding unpacked
before zero i l s j room less = refl
before (suc k) i l s j room less =
    let here : 2 * (i + 1) ≤ length s = omega (arith, room) in
    before k (i + 1) l (noted s i (get_or l i none).entry (get_or l i none).value) j (omega (arith, room, noted-length s i (get_or l i none).entry (get_or l i none).value here)) (omega (arith, less))
    ∙ noted-else s i j (get_or l i none).entry (get_or l i none).value here less

unpacked-at : (k i : ℕ) (l : List Record) (s : List ℕ) (j : ℕ) → 2 * (i + k) ≤ length s → i ≤ j → j < i + k → pair_at (unpacked k i l s) j ≡ pair_of (get_or l j none)
unfolding unpacked
unpacked-at zero i l s j room low high = absurd (omega (arith, low, high))
unpacked-at (suc k) i l s j room low high =
    let e = (get_or l i none).entry in
    let v = (get_or l i none).value in
    let here : 2 * (i + 1) ≤ length s = omega (arith, room) in
    let rest : 2 * (i + 1 + k) ≤ length (noted s i e v) = omega (arith, room, noted-length s i e v here) in
    elim (ℕ_discrete i j) [
      | yes q ↦ ap (pair_at (unpacked k (i + 1) l (noted s i e v))) (sym q) ∙ before k (i + 1) l (noted s i e v) i rest (omega arith) ∙ noted_here s i e v here ∙ ap (λ (n : ℕ). pair_of (get_or l n none)) q
      | no d ↦ unpacked-at k (i + 1) l (noted s i e v) j rest (omega (arith, low, d)) (omega (arith, high))
    ]

read : (k i : ℕ) (l : List Record) (s : List ℕ) → i + k ≤ length l → ((j : ℕ) → i ≤ j → j < i + k → pair_at s j ≡ pair_of (get_or l j none)) → pairs_from k i s ≡ map pair_of (take k (drop i l))
unfolding pairs_from
read zero i l s room h = refl
read (suc k) i l s room h =
    ap₂ (λ (x : Pair) (ps : List Pair). x ∷ ps) (h i (omega arith) (omega arith))
    (read k (i + 1) l s (omega (arith, room)) (λ j low high. h j (omega (arith, low)) (omega (arith, high))) ∙ ap (λ (n : ℕ). map pair_of (take k (drop n l))) (add-one i))
    ∙ ap (λ (r : List Record). map pair_of (take (suc k) r)) (sym (drop-cons l i none (omega (arith, room))))

pub unpacked-listed : (store : List ℕ) (records : List Record) (count : ℕ) (list : List ℕ) → count ≤ length records → 2 * length records ≤ length list
    → pairs count (unpacked (length records) 0 records list) ≡ listed (filled store records count)
unpacked-listed store records count list few room =
    read count 0 records (unpacked (length records) 0 records list) (omega (arith, few))
    (λ j low high. unpacked-at (length records) 0 records list j (omega (arith, room)) low (omega (arith, high, few)))
