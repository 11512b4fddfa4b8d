-- Where a row lies, and the norm from its parts.
--     row_room     row b of l weights lies within the rows
--     row-squares, row-residues      the squares of a row as the code cuts it, and that its weights are residues
--     rows-turn    the largest of one row more
--     norm-of      the norm from its three parts
-- Assumes nothing.
use mathlib.Core.Path.{◌≡◌, ap, ap₂, ◌∙◌}
use mathlib.Core.List.{List}
use Prim.Native.Nat.{ℕ, ◌+◌, ◌-◌, ◌*◌, ◌≤◌, ◌<◌, max}
use native.Mathlib.Nat.{zero-add, add-sub_cancel_left, mul-le-mul_right}
use native.Mathlib.Omega.{arith}
use lib.ListN.{length, take, drop}
use Rattle.lists.specs.Places.{largest, at}
use Rattle.lists.proofs.Parts.{part_length, part_at, part-each}
use Rattle.lists.proofs.Sums.{sum-ext}
use Rattle.lists.proofs.Maxima.{largest-turn}
use Rattle.field.specs.Residues.{Residues}
use Rattle.plan.specs.declared.numbers.Plan.{Plan}
use Rattle.plan.specs.Numbers.{variables}
use Rattle.plan.specs.Parts.{link_start}
use Rattle.listing.specs.Norm.{short, squares, worst}

pub row_room : (b l count n : ℕ) → b < count → count * l ≤ n → b * l + l ≤ n
row_room b l count n h room = omega (arith, mul-le-mul_right l h)

-- a row's squares, from the row as the code cuts it
pub row-squares : (p : ℕ) (ws : List ℕ) (from n : ℕ) → from + n ≤ length ws
    → let row = take (from + n - from) (drop from ws) in squares p row 0 (length row) ≡ squares p ws from n
unfolding squares
row-squares p ws from n room =
    rw (add-sub_cancel_left, part_length ws from n room)
    (sum-ext (λ j. short p (at (take n (drop from ws)) (0 + j)) * short p (at (take n (drop from ws)) (0 + j))) (λ j. short p (at ws (from + j)) * short p (at ws (from + j))) n
    (λ j h. ap (λ (w : ℕ). short p w * short p w) (rw zero-add (part_at ws from n j h))))

pub row-residues : (p : ℕ) (ws : List ℕ) (from n : ℕ) → Residues p ws → Residues p (take n (drop from ws))
row-residues p ws from n h = part-each (λ w. w < p) ws from n (omega (arith, h 0)) h

-- one row more
pub rows-turn : (p : ℕ) (ws : List ℕ) (begin size : ℕ → ℕ) (k : ℕ) {top v next : ℕ} → begin k + size k ≤ length ws
    → top ≡ largest (λ i. squares p ws (begin i) (size i)) k
    → (let row = take (begin k + size k - begin k) (drop (begin k) ws) in v ≡ squares p row 0 (length row))
    → next ≡ max top v → next ≡ largest (λ i. squares p ws (begin i) (size i)) (k + 1)
rows-turn p ws begin size k {top} {v} {next} room h hv hn =
    largest-turn (λ i. squares p ws (begin i) (size i)) k top v next h (hv ∙ row-squares p ws (begin k) (size k) room) hn

pub norm-of : (P : Plan) (w d β : List ℕ) {l links products last rest r : ℕ} → l ≡ variables P
    → links ≡ largest (λ k. squares P.p w (link_start P k) (P.n + k)) P.m
    → products ≡ largest (λ b. squares P.p d (b * l) l) P.t
    → last ≡ largest (λ b. squares P.p β (b * l) l) (P.t + 1)
    → rest ≡ max products last → r ≡ max links rest → r ≡ worst P w d β
unfolding worst
norm-of P w d β hl hlinks hproducts hlast hrest hr =
    hr ∙ ap₂ max hlinks
    (hrest ∙ ap₂ max
    (hproducts ∙ ap (λ (l : ℕ). largest (λ b. squares P.p d (b * l) l) P.t) hl)
    (hlast ∙ ap (λ (l : ℕ). largest (λ b. squares P.p β (b * l) l) (P.t + 1)) hl))
