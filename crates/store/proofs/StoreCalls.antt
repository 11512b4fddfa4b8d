-- The calls on a store: which stores are ready for a filing, and what filing answers and leaves by its refusal.
--     columns-small                    C is at most 1,024
--     ready_of                         a store that meets neither of causes 4 and 6 is ready for a filing
--     reduced-told                     what the test of a store said
--     cleared-work                     a work store of the plan's length that is all zeros is the empty store
--     refused-call                     a refusal is answered by its number, and leaves the store
--     filed-call                       where the other causes are not met, cause 9 is whether the outcome is a contradiction, which leaves the store
-- Assumes nothing.
use mathlib.Core.Path.{◌≡◌, refl, sym, ap, ap₂, ◌∙◌}
use mathlib.Core.Bool.{Bool, true, cond}
use mathlib.Core.List.{List}
use Prim.Native.Nat.{ℕ, ◌≤◌, ◌<◌}
use native.Mathlib.Omega.{arith}
use lib.ListN.{length, replicate, length-replicate}
use Rattle.plan.specs.declared.numbers.Plan.{Plan}
use Rattle.plan.specs.Causes.{leaves, answer, refuses}
use Rattle.plan.specs.Numbers.{columns, Within}
use Rattle.plan.proofs.Bounds.{modulus}
use Rattle.plan.proofs.Refusals.{leaves-refused, refused-answer}
use Rattle.plan.specs.Parts.{Given, store_size}
use Rattle.store.specs.Elimination.{Outcome, new, implied, contradiction, is_reduced, cells, flat}
use Rattle.store.specs.Filings.{is_contradiction}
use Rattle.store.specs.Stages.{Ready}
use Rattle.store.specs.Calls.{equation, empty_store, outcome_of, answer_of, values_of, answered, filed}
use Rattle.std.specs.Prelude.{Result}
use Rattle.plan.specs.declared.refusal.Refusal.{Refusal}
use Rattle.store.specs.declared.elimination.Filed.{Filed}
use Rattle.store.proofs.Bytes.{flat-cells}
use Rattle.store.proofs.ReducedForm.{is_reduced-means}
use Rattle.store.proofs.Answers.{contradiction-same}

pub columns-small : {P : Plan} (n : ℕ) → Within P → n ≡ columns P → n ≤ 1024
columns-small n within e = rw e within.column-limit

pub ready_of : (P : Plan) (store : List ℕ) → Within P → length store ≡ store_size (columns P)
    → is_reduced P.p (columns P) (cells (columns P) store) ≡ true → Ready P.p (columns P) store
ready_of P store within places h =
    record {
      modulus = modulus within;
      limit = within.column-limit;
      places = places;
      reduced = (is_reduced-means P.p (columns P) (cells (columns P) store)).0 h;
    }

-- what the test of a store said, where its columns were counted as n
pub reduced-told : (p : ℕ) (store : List ℕ) {n C : ℕ} {b : Bool} → b ≡ is_reduced p n (cells n store) → n ≡ C → is_reduced p C (cells C store) ≡ b
reduced-told p store h same = ap (λ (k : ℕ). is_reduced p k (cells k store)) (sym same) ∙ sym h

pub cleared-work : (P : Plan) (k : ℕ) (out old : List ℕ) → out ≡ replicate k 0 → length out ≡ length old → length old ≡ store_size (columns P)
    → out ≡ empty_store P
cleared-work P k out old zeroed long places =
    zeroed ∙ ap (λ (n : ℕ). replicate n 0) (sym (length-replicate k 0) ∙ ap length (sym zeroed) ∙ long ∙ places)

-- what a refusal answers and leaves, where F is the call's refusal
pub refused-call : (F k : ℕ) (vs out old : List ℕ) → k ≡ F → 0 < k → (refuses k ≡ answer F vs) × (old ≡ leaves F out old)
refused-call F k vs out old e l = let l' : 0 < F = omega arith in (refused-answer k F vs e l, sym (leaves-refused F out old l'))

filed-last : (G : Given) (store : List ℕ) (i v : ℕ) → length store ≡ store_size (columns G.numbers)
    → filed G store i v ≡ leaves (cond (is_contradiction (outcome_of G store i v)) 9 0) (filed G store i v) store
unfolding filed
filed-last G store i v places =
    last (outcome_of G store i v) (λ e. ap (flat C) (contradiction-same G.numbers.p C (cells C store) (equation G i v) e) ∙ flat-cells C store places)
  where
    C : ℕ
    C = columns G.numbers

    last : (o : Outcome) {x : List ℕ} → (o ≡ contradiction → x ≡ store) → x ≡ leaves (cond (is_contradiction o) 9 0) x store
    last (new c) h = refl
    last implied h = refl
    last contradiction h = h refl

-- what the last return answers and leaves, where the other causes are not met; H is the plan as it was admitted
pub filed-call : (G H : Given) (store : List ℕ) (i v F : ℕ) (r : Result Filed Refusal) (out : List ℕ) → G ≡ H → length store ≡ store_size (columns H.numbers)
    → F ≡ cond (is_contradiction (outcome_of H store i v)) 9 0 → answer_of r ≡ answered (outcome_of H store i v) → out ≡ filed H store i v
    → (answer_of r ≡ answer F (values_of (outcome_of G store i v))) × (out ≡ leaves F (filed G store i v) store)
filed-call G H store i v F r out same places f given left = (
  given ∙ ap₂ (λ (k : ℕ) (K : Given). answer k (values_of (outcome_of K store i v))) (sym f) (sym same),
  left ∙ filed-last H store i v places ∙ ap₂ (λ (k : ℕ) (K : Given). leaves k (filed K store i v) store) (sym f) (sym same),
)
