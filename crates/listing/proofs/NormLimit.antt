-- How large a norm can be: 1,000,000, of 64 weights whose short side is 125.
--     short-half        the short side of a residue is at most half of p
--     squares-limit     the squares of at most 64 residues add up to at most 1,000,000
--     rows-limit        so the largest sum of several rows is at most that
--     worst-limit       and the worst norm of a plan that is within its limits
--     norm-limit        every norm that the call answers is at most that
-- `Cases` has 64 weights that meet it. Assumes nothing.
use mathlib.Core.Path.{◌≡◌, ap}
use mathlib.Core.List.{List, [], ◌∷◌}
use Prim.Native.Nat.{ℕ, ◌+◌, ◌-◌, ◌*◌, ◌/◌, ◌≤◌, ◌<◌}
use native.Mathlib.Nat.{mul-le-mul}
use native.Mathlib.Decide.{dec_lt}
use native.Mathlib.Omega.{arith}
use lib.ListN.{length}
use borrow.Author.Tests.{lt-ltb, le-ltb, not-false}
use Rattle.lists.specs.Places.{largest, at}
use Rattle.lists.proofs.Sums.{sum-le}
use Rattle.lists.proofs.Maxima.{largest-le}
use Rattle.field.specs.Residues.{Residues}
use Rattle.field.specs.Rows.{all_below}
use Rattle.field.proofs.Ranges.{residues-of}
use Rattle.plan.specs.declared.numbers.Plan.{Plan}
use Rattle.plan.specs.declared.admission.Own.TheVariants.{Row}
use Rattle.plan.specs.Causes.{first, gives}
use Rattle.plan.specs.Numbers.{Within, variables}
use Rattle.plan.specs.Parts.{Given, link_start}
use Rattle.plan.proofs.Bounds.{prime-low, prime-high}
use Rattle.plan.proofs.Refusals.{none-met, answer-gives}
use Rattle.plan.proofs.Admitting.{unrefused}
use Rattle.listing.specs.Norm.{short, squares, worst, norm_own, norm_causes, norm_answer}

pub short-half : (p w : ℕ) → w < p → short p w ≤ p / 2
unfolding short
short-half p w h = elim (dec_lt ((p - 1) / 2) w) [
  | yes above ↦ rw (lt-ltb ((p - 1) / 2) w above) (omega arith)
  | no below ↦ rw (le-ltb ((p - 1) / 2) w (omega arith)) (omega arith)
]

squares-limit : (p : ℕ) (ws : List ℕ) (from n : ℕ) → p ≤ 251 → Residues p ws → n ≤ 64 → squares p ws from n ≤ 1000000
unfolding squares
squares-limit p ws from n top small few =
    let half : (j : ℕ) → short p (at ws (from + j)) ≤ 125 = (λ j. omega (arith, short-half p (at ws (from + j)) (small (from + j)))) in
    omega (arith, sum-le (λ j. short p (at ws (from + j)) * short p (at ws (from + j))) 15625 n (λ j _. mul-le-mul (half j) (half j)))

rows-limit : (p : ℕ) (ws : List ℕ) (begin size : ℕ → ℕ) (count : ℕ) → p ≤ 251 → Residues p ws → ((i : ℕ) → i < count → size i ≤ 64)
    → largest (λ i. squares p ws (begin i) (size i)) count ≤ 1000000
rows-limit p ws begin size count top small few =
    largest-le (λ i. squares p ws (begin i) (size i)) 1000000 count (λ i h. squares-limit p ws (begin i) (size i) top small (few i h))

pub worst-limit : (P : Plan) (w d β : List ℕ) → Within P → Residues P.p w → Residues P.p d → Residues P.p β → worst P w d β ≤ 1000000
unfolding worst
worst-limit P w d β within hw hd hβ =
    let top = prime-high within in
    let few = within.variable-limit in
    omega (
      arith,
      rows-limit P.p w (link_start P) (λ k. P.n + k) P.m top hw (λ k h. omega (arith, few)),
      rows-limit P.p d (λ b. b * variables P) (λ _. variables P) P.t top hd (λ _ _. few),
      rows-limit P.p β (λ b. b * variables P) (λ _. variables P) (P.t + 1) top hβ (λ _ _. few),
    )

pub norm-limit : (G : Given) (β : List ℕ) (x : ℕ) → norm_answer G β ≡ gives (x ∷ []) → x ≤ 1000000
norm-limit G β x e =
    let P = G.numbers in
    let norm = worst P G.weights G.products β in
    let given = answer-gives (first (norm_causes G β)) (norm ∷ []) (x ∷ []) e in
    let call = unrefused G (Row (length β)) (norm_own β) given.0 in
    let none = none-met (norm_own β G) (omega arith) call.rest-none in
    let residues = residues-of P.p β (omega (arith, prime-low call.within)) (not-false (all_below P.p β) none.0) in
    omega (arith, ap (λ (xs : List ℕ). at xs 0) given.1, worst-limit P G.weights G.products β call.within call.lent.weights-residues call.lent.products-residues residues)
