-- A row raised piece by piece.
--     Raised                        the first j places of the list e are raised by xs, which gives tops
--     raised-front, raised-next     the piece in front, and a piece behind those already raised
--     raised-rest                   the piece behind those already raised, to the end
-- Assumes nothing.
use mathlib.Core.Path.{◌≡◌, refl, sym, ap, ap₂, ◌∙◌}
use mathlib.Core.List.{List, ◌++◌}
use Prim.Native.Nat.{ℕ, max, ◌+◌, ◌-◌, ◌≤◌}
use native.Mathlib.Nat.{sub-zero}
use native.Mathlib.Omega.{arith}
use lib.ListN.{length, take, drop}
use Rattle.lists.specs.Places.{tab, at}
use Rattle.lists.proofs.Tabs.{tab-ext}
use Rattle.lists.proofs.Parts.{part_length, part_at}
use Rattle.lists.proofs.Overwrite.{Written, written_none, written-part, unwritten, written_all}
use Rattle.field.specs.Rows.{maxima}

abbrev pub Raised : ℕ → List ℕ → List ℕ → ℕ → List ℕ → Type 0
Raised n xs e j tops = Written n (λ k. max (at e k) (at xs k)) e j tops

-- the places from j to k
pub raised-next : {n j : ℕ} {e tops : List ℕ} (k : ℕ) (xs ys : List ℕ) → Raised n xs e j tops → j ≤ k → k ≤ n
    → ys ≡ maxima (take (k - j) (drop j tops)) (take (k - j) (drop j xs)) → Raised n xs e k (take j tops ++ (ys ++ drop (k - j) (drop j tops)))
raised-next {n} {j} {e} {tops} k xs ys w h h' hy =
    let l = k - j in
    let end : j + l ≡ k = omega arith in
    let piece : maxima (take l (drop j tops)) (take l (drop j xs)) ≡ tab l (λ i. max (at e (j + i)) (at xs (j + i))) =
    ap (λ (m : ℕ). tab m (λ i. max (at (take l (drop j tops)) i) (at (take l (drop j xs)) i))) (part_length tops j l (omega (arith, w.same)))
    ∙ tab-ext l _ _ 0 (λ i b. ap₂ max (part_at tops j l i b ∙ unwritten w (j + i) (omega arith)) (part_at xs j l i b)) in
    rw end at (written-part l ys w (omega arith) (hy ∙ piece))

pub raised-front : (k : ℕ) (xs e ys : List ℕ) → k ≤ length e → ys ≡ maxima (take k e) (take k xs) → Raised (length e) xs e k (ys ++ drop k e)
raised-front k xs e ys h hy =
    simp sub-zero at
    (raised-next k xs ys (written_none (length e) (λ i. max (at e i) (at xs i)) e refl) (omega arith) h (simp sub-zero hy))

-- the places from j to the end
pub raised-rest : {j : ℕ} {e tops : List ℕ} (xs ys : List ℕ) → length xs ≡ length e → Raised (length e) xs e j tops
    → ys ≡ maxima (take (length tops - j) (drop j tops)) (take (length xs - j) (drop j xs)) → take j tops ++ (ys ++ drop (length tops - j) (drop j tops)) ≡ maxima e xs
raised-rest {j} {e} {tops} xs ys h w hy =
    let same : length xs ≡ length tops = h ∙ sym w.same in
    written_all
    (raised-next (length tops) xs ys w (omega (arith, w.within, w.same)) (omega (arith, w.same))
    (hy ∙ ap (λ (m : ℕ). maxima (take (length tops - j) (drop j tops)) (take (m - j) (drop j xs))) same))
    (omega (arith, w.same))
