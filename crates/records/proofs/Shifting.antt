-- Records that move down one place, at once or one by one, are the list without one place.
--     middle                the records behind a place, of the first so many
--     closed                they move down at once, as `remove` moves them, and the freed last record is set to zeros: the record at a place is removed
--     shift k i l           k records from i + 1 on, each moved down by one, in order
--     shift-removed         the same of records that move one by one
-- Assumes nothing.
use mathlib.Core.Path.{◌≡◌, refl, sym, ap, ap₂, ◌∙◌}
use mathlib.Core.List.{List, ◌∷◌, ◌++◌, append_assoc, append-nil}
use Prim.Native.Nat.{ℕ, zero, suc, ◌+◌, ◌-◌, ◌≤◌, ◌<◌}
use native.Mathlib.Numerals.{add-one}
use native.Mathlib.Omega.{arith}
use lib.ListN.{length, take, drop, get_or, set, length-set, length-drop}
use lib.Seq.{paste, take-suc-set, drop-cons, drop_at, take-add, length-take-le, set_split, drop-set-lt, append_snoc}
use Rattle.std.proofs.lemmas.List.{drop-drop}
use Rattle.std.proofs.lemmas.List.Edits.{length-paste, take-paste, drop-paste}
use Rattle.records.specs.Listed.{none, removed}
use Rattle.records.specs.declared.Record.{Record}

pub middle : (l : List Record) (count i : ℕ) → i < count → count ≤ length l → drop (suc i) (take count l) ≡ take (count - (i + 1)) (drop (suc i) l)
middle l count i h fits =
    let e : count ≡ suc i + (count - (i + 1)) = omega arith in
    ap (λ (n : ℕ). drop (suc i) (take n l)) e
    ∙ ap (drop (suc i)) (take-add (suc i) (count - (i + 1)) l)
    ∙ drop_at (take (suc i) l) (take (count - (i + 1)) (drop (suc i) l)) (suc i) (length-take-le (suc i) l (omega arith))

pub closed : (l : List Record) (count i : ℕ) → i < count → count ≤ length l
    → set (paste l i (drop (i + 1) l) (count - (i + 1))) (count - 1) none ≡ removed l count i
closed l count i h fits =
    let k : ℕ = count - (i + 1) in
    let moved : List Record = paste l i (drop (i + 1) l) k in
    let e : count - 1 ≡ i + k = omega arith in
    let next : suc (count - 1) ≡ i + k + 1 = omega arith in
    let end : i + k + 1 ≡ count = omega arith in
    let long : k ≤ length (drop (i + 1) l) = omega (arith, length-drop (i + 1) l) in
    let within : i ≤ length l = omega arith in
    let room : i + k ≤ length l = omega arith in
    set_split moved (count - 1) none (omega (arith, length-paste l i (drop (i + 1) l) k room long))
    ∙ ap₂ (λ (a b : List Record). a ++ (none ∷ b))
    (ap (λ (n : ℕ). take n moved) e
    ∙ take-paste l i (drop (i + 1) l) k within long
    ∙ ap (λ (n : ℕ). take i l ++ take k (drop n l)) (add-one i)
    ∙ ap (λ (m : List Record). take i l ++ m) (sym (middle l count i h fits)))
    (ap (λ (n : ℕ). drop n moved) next
    ∙ sym (drop-drop 1 (i + k) moved)
    ∙ ap (drop 1) (drop-paste l i (drop (i + 1) l) k within long)
    ∙ drop-drop 1 (i + k) l
    ∙ ap (λ (n : ℕ). drop n l) end)
    ∙ append_assoc (take i l) (drop (suc i) (take count l)) (none ∷ drop count l)

unfoldable pub shift : ℕ → ℕ → List Record → List Record
shift zero i l = l
shift (suc k) i l = shift k (i + 1) (set l i (get_or l (i + 1) none))

shift-length : (k i : ℕ) (l : List Record) → length (shift k i l) ≡ length l
unfolding shift
shift-length zero i l = refl
shift-length (suc k) i l = shift-length k (i + 1) (set l i (get_or l (i + 1) none)) ∙ length-set l i (get_or l (i + 1) none)

-- what is behind stays
shift_behind : (n k i : ℕ) (l : List Record) → i + k ≤ n → drop n (shift k i l) ≡ drop n l
unfolding shift
shift_behind n zero i l h = refl
shift_behind n (suc k) i l h =
    shift_behind n k (i + 1) (set l i (get_or l (i + 1) none)) (omega arith) ∙ drop-set-lt n l i (get_or l (i + 1) none) (omega arith)

-- what moves, and what is before it
shift-front : (k i : ℕ) (l : List Record) → i + k < length l → take (i + k) (shift k i l) ≡ take i l ++ take k (drop (suc i) l)
unfolding shift
shift-front zero i l h = let e : i + 0 ≡ i = omega arith in ap (λ (n : ℕ). take n l) e ∙ sym (append-nil (take i l))
shift-front (suc k) i l h =
    let here : i < length l = omega arith in
    let more : suc i < length l = omega arith in
    let far : i + suc k ≡ i + 1 + k = omega arith in
    let y : Record = get_or l (i + 1) none in
    let l' : List Record = set l i y in
    ap (λ (n : ℕ). take n (shift k (i + 1) l')) far
    ∙ shift-front k (i + 1) l' (rw length-set (omega arith))
    ∙ ap₂ (λ (a b : List Record). a ++ take k b)
    (ap (λ (n : ℕ). take n l') (add-one i) ∙ take-suc-set l i y here) (drop-set-lt (suc (i + 1)) l i y (omega arith))
    ∙ append_snoc (take i l) y (take k (drop (suc (i + 1)) l))
    ∙ ap (λ (a : List Record). take i l ++ a)
    (ap (λ (n : ℕ). get_or l n none ∷ take k (drop (suc n) l)) (add-one i) ∙ ap (take (suc k)) (sym (drop-cons l (suc i) none more)))

pub shift-removed : (l : List Record) (count i : ℕ) → i < count → count ≤ length l
    → set (shift (count - (i + 1)) i l) (count - 1) none ≡ removed l count i
shift-removed l count i h fits =
    let k : ℕ = count - (i + 1) in
    let e : count - 1 ≡ i + k = omega arith in
    let next : suc (count - 1) ≡ count = omega arith in
    set_split (shift k i l) (count - 1) none (rw (shift-length k i l) (omega arith))
    ∙ ap₂ (λ (a b : List Record). a ++ (none ∷ b))
    (ap (λ (n : ℕ). take n (shift k i l)) e ∙ shift-front k i l (omega arith) ∙ ap (λ (m : List Record). take i l ++ m) (sym (middle l count i h fits)))
    (ap (λ (n : ℕ). drop n (shift k i l)) next ∙ shift_behind count k i l (omega arith))
    ∙ append_assoc (take i l) (drop (suc i) (take count l)) (none ∷ drop count l)
