-- Refusals: causes in number order, and what an answer says of its refusal.
--     or_else, Numbered                     the first of two refusals; no cause of a list has the number 0
--     first-append                          two lists of causes in turn: the first list's refusal, or the second's where it has none
--     first-refused, first-passed           the same by the first list's refusal
--     NoneMet, none-met                     where a list refuses nothing, none of its causes is met
--     result-refused                        a refusal leaves what is lent as it was
--     number-positive                       no refusal has the number 0
--     answer-refuses, answer-gives, refused-answer, given-answer, number-answer       an answer by its refusal, and back
-- Assumes nothing.
use mathlib.Core.Path.{◌≡◌, refl, sym, ap, ◌∙◌}
use mathlib.Core.Bool.{Bool, true, false, cond}
use mathlib.Core.List.{List, [], ◌∷◌, ◌++◌}
use Prim.Native.Nat.{ℕ, zero, suc, ◌<◌}
use native.Mathlib.Omega.{arith}
use Rattle.plan.specs.Causes.{first, leaves, gives, refuses, answer, number_of, number}
use Rattle.plan.specs.declared.refusal.Refusal.{Refusal}
use Rattle.plan.specs.declared.refusal.Refusal.TheVariants.{Prime, Radix, Range, Length, Residue, Unreduced, Entry, Value, Contradiction, Room, Step, Digit, Line, Columns, Foreign, Records, Unlisted}

-- the first refusal of two, each 0 where there is none
abbrev pub or_else : ℕ → ℕ → ℕ
or_else zero k = k
or_else (suc j) k = suc j

-- no cause of the list has the number 0, which stands for none
abbrev pub Numbered : List (ℕ × Bool) → Type 0
Numbered [] = Unit {0}
Numbered (cause ∷ causes) = (0 < cause.0) × Numbered causes

pub first-append : (a b : List (ℕ × Bool)) → Numbered a → first (a ++ b) ≡ or_else (first a) (first b)
first-append [] b h = refl
first-append (cause ∷ causes) b h = met cause.1 cause.0 (first (causes ++ b)) (first causes) h.0 (first-append causes b h.1)
  where
    positive : (k j : ℕ) → 0 < k → k ≡ or_else k j
    positive zero j l = omega arith
    positive (suc k) j l = refl

    met : (c : Bool) (k x y : ℕ) → 0 < k → x ≡ or_else y (first b) → cond c k x ≡ or_else (cond c k y) (first b)
    met true k x y l e = positive k (first b) l
    met false k x y l e = e

-- a refusal by the first list is the call's refusal; where the first list has none, the second decides
pub first-refused : (a b : List (ℕ × Bool)) (k : ℕ) → Numbered a → first a ≡ k → 0 < k → k ≡ first (a ++ b)
first-refused a b k h e pos = sym (first-append a b h ∙ ap (λ (j : ℕ). or_else j (first b)) e ∙ refused k pos)
  where
    refused : (k : ℕ) → 0 < k → or_else k (first b) ≡ k
    refused zero pos = omega arith
    refused (suc k) pos = refl

pub first-passed : (a b : List (ℕ × Bool)) → Numbered a → first a ≡ 0 → first (a ++ b) ≡ first b
first-passed a b h e = first-append a b h ∙ ap (λ (j : ℕ). or_else j (first b)) e

pub first-none : (a b : List (ℕ × Bool)) → Numbered a → first (a ++ b) ≡ 0 → (first a ≡ 0) × (first b ≡ 0)
first-none a b h e = neither-refuses (first a) (first b) (sym (first-append a b h) ∙ e)
  where
    neither-refuses : (j k : ℕ) → or_else j k ≡ 0 → (j ≡ 0) × (k ≡ 0)
    neither-refuses zero k e = (refl, e)
    neither-refuses (suc j) k e = absurd (omega arith)

pub leaves-refused {ℓ} : {A : Type ℓ} (k : ℕ) (new old : A) → 0 < k → leaves k new old ≡ old
leaves-refused zero new old pos = absurd (omega arith)
leaves-refused (suc k) new old pos = refl

-- no cause of the list is met
abbrev pub NoneMet : List (ℕ × Bool) → Type 0
NoneMet [] = Unit {0}
NoneMet (cause ∷ causes) = (cause.1 ≡ false) × NoneMet causes

pub none-met : (causes : List (ℕ × Bool)) → Numbered causes → first causes ≡ 0 → NoneMet causes
none-met [] h e = tt
none-met (cause ∷ causes) h e =
    let r = unmet cause.1 cause.0 (first causes) h.0 e in
    (r.0, none-met causes h.1 r.1)
  where
    unmet : (c : Bool) (k rest : ℕ) → 0 < k → cond c k rest ≡ 0 → (c ≡ false) × (rest ≡ 0)
    unmet true k rest l e = absurd (omega arith)
    unmet false k rest l e = (refl, e)

-- an answer says its refusal and, where there is none, its values
pub answer-refuses : (j : ℕ) (vs : List ℕ) (k : ℕ) → answer j vs ≡ refuses k → (j ≡ k) × (0 < k)
answer-refuses zero vs k e = let z : ◌≡◌ {A = ℕ} 0 1 = cc in absurd (omega arith)
answer-refuses (suc j) vs k e = let same : suc j ≡ k = cc in (same, omega arith)

pub answer-gives : (j : ℕ) (vs ws : List ℕ) → answer j vs ≡ gives ws → (j ≡ 0) × (vs ≡ ws)
answer-gives zero vs ws e = (refl, cc)
answer-gives (suc j) vs ws e = let z : ◌≡◌ {A = ℕ} 0 1 = cc in absurd (omega arith)

pub refused-answer : (k F : ℕ) (vs : List ℕ) → k ≡ F → 0 < k → refuses k ≡ answer F vs
refused-answer zero F vs e l = absurd (omega arith)
refused-answer (suc k) F vs e l = ap (λ (j : ℕ). answer j vs) e

pub given-answer : (F : ℕ) (vs : List ℕ) → F ≡ 0 → gives vs ≡ answer F vs
given-answer F vs e = ap (λ (j : ℕ). answer j vs) (sym e)

pub number-answer : (k : ℕ) (vs : List ℕ) → number_of (answer k vs) ≡ k
number-answer zero vs = refl
number-answer (suc k) vs = refl

-- no refusal has the number 0
pub number-positive : (r : Refusal) → 0 < number r
number-positive r = elim r as (λ k. 0 < number k) [
  | Prime ↦ omega arith
  | Radix ↦ omega arith
  | Range ↦ omega arith
  | Length ↦ omega arith
  | Residue ↦ omega arith
  | Unreduced ↦ omega arith
  | Entry ↦ omega arith
  | Value ↦ omega arith
  | Contradiction ↦ omega arith
  | Room ↦ omega arith
  | Step ↦ omega arith
  | Digit ↦ omega arith
  | Line ↦ omega arith
  | Columns ↦ omega arith
  | Foreign ↦ omega arith
  | Records ↦ omega arith
  | Unlisted ↦ omega arith
]
