-- What the judgement of a line is, from what the code tests and answers, at each kind of place.
--     stops, reaches                    a refusal, or the next place
--     header-thirteen, header_refused, header-wide, header-passed     the values line
--     radices-reaches                   the radices line
--     weights-reaches, table-reaches, product-reaches       the lines of parts
-- Assumes nothing.
use mathlib.Core.Path.{◌≡◌, refl, sym, ap, ap₂, ◌∙◌}
use mathlib.Core.Bool.{Bool, true, false}
use mathlib.Core.List.{List, [], ◌∷◌, ◌++◌, append_assoc}
use Prim.Native.Nat.{ℕ, zero, suc, ◌+◌, ◌≤◌, ◌<◌}
use native.Mathlib.Numerals.{add-one}
use native.Mathlib.Omega.{arith}
use lib.Dec.{ltb}
use lib.ListN.{length, take, drop, length-append}
use lib.Seq.{take_at, length-take-le}
use borrow.Author.Tests.{lt-ltb, le-ltb}
use Rattle.lists.specs.Places.{at, placed}
use Rattle.plan.specs.declared.numbers.Plan.{Plan}
use Rattle.plan.specs.declared.refusal.Refusal.{Refusal}
use Rattle.plan.specs.Causes.{first, gives, refuses, number}
use Rattle.plan.specs.Numbers.{columns, number_causes, numbers_of, plan, checked}
use Rattle.plan.specs.Parts.{lend}
use Rattle.plan.proofs.Refusals.{first-refused, first-passed, number-positive}
use Rattle.plan.proofs.Limits.{refused-number, accepted-plan}
use Rattle.lines.specs.Lines.{asks, numbers}
use Rattle.lines.proofs.LineLaws.{asks-count}
use Rattle.text.specs.Meaning.{Place, header, radices, weights, table, products, Judged, next, cause, unless, after_links, after_products, header_causes, header_plan, radices_causes, line_causes, judged}
use Rattle.text.specs.Progress.{read_of}
use Rattle.text.specs.declared.stages.Filled.{Filled}

-- a refusal, or the next place
pub stops : (r : Refusal) (k : ℕ) (place : Place) → number r ≡ k → cause (number r) ≡ unless k place
stops r k place e = met (number r) (number-positive r) ∙ ap (λ (j : ℕ). unless j place) e
  where
    met : (j : ℕ) → 0 < j → cause j ≡ unless j place
    met zero l = absurd (omega arith)
    met (suc j) l = refl

pub reaches : (k : ℕ) (place : Place) → 0 ≡ k → next place ≡ unless k place
reaches k place e = ap (λ (j : ℕ). unless j place) e

pub header-thirteen : (line : List ℕ) → false ≡ asks 5 5 line → cause 13 ≡ judged header line
unfolding judged
header-thirteen line e = rw (sym e)

-- the values line by its numbers
outcome : Plan → Judged
outcome P = unless (first (header_causes P)) (radices P)

header-judged : (line : List ℕ) → asks 5 5 line ≡ true → judged header line ≡ outcome (header_plan (numbers line))
unfolding judged outcome
header-judged line e = rw e

module _ (p s n m t : ℕ) where
  wide : List (ℕ × Bool)
  wide = (14, ltb 360 (columns (plan p s n m t))) ∷ []

  outcome-refused : (r : Refusal) → refuses (number r) ≡ checked p s n m t [] → cause (number r) ≡ outcome (plan p s n m t)
  unfolding outcome wide
  outcome-refused r e =
      let h = refused-number p s n m t [] (number r) (sym e) in
      stops r _ (radices (plan p s n m t)) (first-refused (number_causes p s n m t []) wide (number r) (omega arith) h.0 h.1)

  module _ (Q : Plan) (e : gives (numbers_of Q) ≡ checked p s n m t []) where
    passed : first (header_causes (plan p s n m t)) ≡ first wide
    unfolding wide
    passed = first-passed (number_causes p s n m t []) wide (omega arith) (accepted-plan p s n m t [] (sym e)).0

    same-columns : columns Q ≡ columns (plan p s n m t)
    same-columns = ap columns (sym (accepted-plan p s n m t [] (sym e)).1)

    outcome-wide : 360 < columns Q → cause 14 ≡ outcome (plan p s n m t)
    unfolding outcome wide
    outcome-wide h =
        let met : first (header_causes (plan p s n m t)) ≡ 14 = passed ∙ rw (lt-ltb 360 (columns (plan p s n m t)) (rw same-columns at h)) in
        ap (λ (j : ℕ). unless j (radices (plan p s n m t))) (sym met)

    outcome-passed : columns Q ≤ 360 → next (radices Q) ≡ outcome (plan p s n m t)
    unfolding outcome wide
    outcome-passed h =
        let met : first (header_causes (plan p s n m t)) ≡ 0 = passed ∙ rw (le-ltb 360 (columns (plan p s n m t)) (rw same-columns at h)) in
        ap (λ (P : Plan). next (radices P)) (sym (accepted-plan p s n m t [] (sym e)).1)
        ∙ reaches (first (header_causes (plan p s n m t))) (radices (plan p s n m t)) (sym met)

module _ (line ns : List ℕ) (asked : true ≡ asks 5 5 line) (e : ns ≡ numbers line) where
  is-outcome : outcome (plan (at ns 0) (at ns 1) (at ns 2) (at ns 3) (at ns 4)) ≡ judged header line
  is-outcome = ap (λ (l : List ℕ). outcome (header_plan l)) e ∙ sym (header-judged line (sym asked))

  pub header_refused : (r : Refusal) → refuses (number r) ≡ checked (at ns 0) (at ns 1) (at ns 2) (at ns 3) (at ns 4) [] → cause (number r) ≡ judged header line
  header_refused r h = outcome-refused (at ns 0) (at ns 1) (at ns 2) (at ns 3) (at ns 4) r h ∙ is-outcome

  module _ (Q : Plan) (h : gives (numbers_of Q) ≡ checked (at ns 0) (at ns 1) (at ns 2) (at ns 3) (at ns 4) []) where
    pub header-wide : 360 < columns Q → cause 14 ≡ judged header line
    header-wide l = outcome-wide (at ns 0) (at ns 1) (at ns 2) (at ns 3) (at ns 4) Q h l ∙ is-outcome

    pub header-passed : columns Q ≤ 360 → next (radices Q) ≡ judged header line
    header-passed l = outcome-passed (at ns 0) (at ns 1) (at ns 2) (at ns 3) (at ns 4) Q h l ∙ is-outcome

-- the radices line: the radices as they were lent, at the front of their buffer
pub radices-reaches : (P : Plan) (line part rest : List ℕ) → 0 ≡ first (radices_causes P.n P.p line) → length part ≡ P.n → part ≡ numbers line
    → next (after_links (lend P (take P.n (part ++ rest)) [] [] []) 0) ≡ judged (radices P) line
unfolding judged
radices-reaches P line part rest z l h =
    ap (λ (R : List ℕ). next (after_links (lend P R [] [] []) 0)) (take_at part rest P.n l ∙ h) ∙ reaches _ _ z

-- a line of a part: the filled part of the buffer grows by the line's numbers
module _ (n p : ℕ) (line : List ℕ) (z : 0 ≡ first (line_causes n p line)) where
  part_count : length (numbers line) ≡ n
  part_count = by (asks 5 n line) refl
    where
      by : (b : Bool) → asks 5 n line ≡ b → length (numbers line) ≡ n
      by true a = asks-count 5 n line a
      by false a = let w : ◌≡◌ {A = ℕ} 0 13 = z ∙ rw a in absurd (omega arith)

  part_filled : (buf out : List ℕ) (a : ℕ) → a + n ≤ length buf → out ≡ placed buf a (numbers line) → take (a + n) out ≡ take a buf ++ numbers line
  part_filled buf out a h o =
      ap (take (a + n)) (o ∙ sym (append_assoc (take a buf) (numbers line) (drop (a + length (numbers line)) buf)))
      ∙ take_at (take a buf ++ numbers line) (drop (a + length (numbers line)) buf) (a + n)
      (length-append (take a buf) (numbers line) ∙ ap₂ ◌+◌ (length-take-le a buf (omega arith)) part_count)

module _ (Q : Filled) (k : ℕ) (R w T d line out : List ℕ) where
  pub weights-reaches : 0 ≡ first (line_causes (Q.plan.n + k) Q.plan.p line) → Q.weights + (Q.plan.n + k) ≤ length w → out ≡ placed w Q.weights (numbers line)
      → next (table (lend Q.plan (take Q.plan.n R) (take (Q.weights + (Q.plan.n + k)) out) (take Q.tables T) (take Q.products d)) k) ≡ judged (weights (read_of Q R w T d) k) line
  unfolding judged
  weights-reaches z h o =
      ap (λ (l : List ℕ). next (table (lend Q.plan (take Q.plan.n R) l (take Q.tables T) (take Q.products d)) k)) (part_filled _ _ line z w out Q.weights h o) ∙ reaches _ _ z

  pub table-reaches : 0 ≡ first (line_causes Q.plan.p Q.plan.p line) → Q.tables + Q.plan.p ≤ length T → out ≡ placed T Q.tables (numbers line)
      → next (after_links (lend Q.plan (take Q.plan.n R) (take Q.weights w) (take (Q.tables + Q.plan.p) out) (take Q.products d)) (k + 1)) ≡ judged (table (read_of Q R w T d) k) line
  unfolding judged
  table-reaches z h o =
      ap₂ (λ (i : ℕ) (l : List ℕ). next (after_links (lend Q.plan (take Q.plan.n R) (take Q.weights w) l (take Q.products d)) i)) (add-one k) (part_filled _ _ line z T out Q.tables h o)
      ∙ reaches _ _ z

  pub product-reaches : 0 ≡ first (line_causes (Q.plan.n + Q.plan.m) Q.plan.p line) → Q.products + (Q.plan.n + Q.plan.m) ≤ length d → out ≡ placed d Q.products (numbers line)
      → next (after_products (lend Q.plan (take Q.plan.n R) (take Q.weights w) (take Q.tables T) (take (Q.products + (Q.plan.n + Q.plan.m)) out)) (k + 1)) ≡ judged (products (read_of Q R w T d) k) line
  unfolding judged
  product-reaches z h o =
      ap₂ (λ (i : ℕ) (l : List ℕ). next (after_products (lend Q.plan (take Q.plan.n R) (take Q.weights w) (take Q.tables T) l) i)) (add-one k) (part_filled _ _ line z d out Q.products h o)
      ∙ reaches _ _ z
