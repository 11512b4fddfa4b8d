-- 02, C-12: "Given plan, store and entry, reply Forced with a residue, or Free with a column." An entry's row stands on the store like the
-- equation of that entry with 0 for its right-hand side. G is a plan as lent. Stands on `Elimination` and `Calls`, and on the rows and causes
-- of `plan`.
--     Standing                 forced with a residue, or free with a column
--     standing p C S e         how the equation e, whose right-hand side is 0, stands on the store S: "that of clearing the whole row"
--     left_cleared p S e q     what stands in column q once the columns left of it are cleared
--     FirstOpen p C S e c      c is "the first column that has a value and no pivot", clearing from the left
--     standing_of G store i    how entry i stands
--     Gives G store i v        "all coefficients reproducing the store give that residue there"
--     settle_own, settle_causes  the call's own causes, and all of them: 1 2 3 4 5 6 7
--     answer_of a              02's values for each case of the answer: 0 and the residue of `Forced`, 1 and the column of `Free`; the refusal's number
--     values_of o              the values that a standing gives
--     settle_answer            what `settle` answers
--     Settles G store i        what the answer says: of the coefficients that reproduce the store, and of filing the entry
use Rattle.std.specs.Prelude.{◌≡◌, Bool, cond, ◌↔◌, ◌≢◌, List, [], ◌∷◌, ℕ, ◌+◌, ◌-◌, ◌*◌, ◌%◌, ◌<◌, ltb, length, Result, Ok, Err}
use Rattle.lists.specs.Places.{sum, at}
use Rattle.field.specs.Residues.{Residues}
use Rattle.plan.specs.declared.admission.Own.TheVariants.{Store}
use Rattle.plan.specs.Numbers.{columns}
use Rattle.plan.specs.Causes.{first, Answer, answer, answer_with}
use Rattle.plan.specs.Parts.{Given, call_causes}
use Rattle.plan.specs.Rows.{entry_cause}
use Rattle.plan.specs.Equation.{reproduced}
use Rattle.store.specs.Elimination.{Solves, residual, lead, cells}
use Rattle.store.specs.Calls as filing
use Rattle.store.specs.Calls.{equation, store_cause, file_answer}
use Rattle.store.specs.declared.elimination.Filed.TheVariants.{New, Implied}
use Rattle.store.specs.declared.settling.Settled.{Settled}
use Rattle.store.specs.declared.settling.Settled.TheVariants.{Forced, Free}
use Rattle.plan.specs.declared.refusal.Refusal.{Refusal}
use Rattle.plan.specs.declared.refusal.Refusal.TheVariants.{Contradiction}

pub data Standing : Type 0 where
  forced free : ℕ → Standing

-- the whole row is cleared: the first column that has a value then, or, where none has, the opposite of what is left of the right-hand side 0
unfoldable pub standing : ℕ → ℕ → (ℕ → ℕ → ℕ) → (ℕ → ℕ) → Standing
standing p C S e =
    cond (ltb (lead (residual p C S e) C) C) (free (lead (residual p C S e) C)) (forced ((p - residual p C S e C) % p))

-- e less, for each row above row q, e's coefficient there times that row: in a pivot's column the others have nothing, so these coefficients
-- are those that the clearing meets
unfoldable pub left_cleared : ℕ → (ℕ → ℕ → ℕ) → (ℕ → ℕ) → ℕ → ℕ
left_cleared p S e q = (e q + sum (λ r. (p - e r) * S r q) q) % p

pub record FirstOpen (p C : ℕ) (S : ℕ → ℕ → ℕ) (e : ℕ → ℕ) (c : ℕ) : Type 0 where
  pub column : c < C
  pub no-pivot : S c c ≡ 0
  pub value : left_cleared p S e c ≢ 0
  pub before : (j : ℕ) → j < c → S j j ≡ 0 → left_cleared p S e j ≡ 0

abbrev pub standing_of : Given → List ℕ → ℕ → Standing
standing_of G store i = standing G.numbers.p (columns G.numbers) (cells (columns G.numbers) store) (equation G i 0)

abbrev pub Gives : Given → List ℕ → ℕ → ℕ → Type 0
Gives G store i v =
    (β : List ℕ) → length β ≡ columns G.numbers → Residues G.numbers.p β
    → Solves G.numbers.p (columns G.numbers) (cells (columns G.numbers) store) (at β) → reproduced G i β % G.numbers.p ≡ v

abbrev pub settle_own : List ℕ → ℕ → Given → List (ℕ × Bool)
settle_own store i G = store_cause G.numbers store ∷ entry_cause G i ∷ []

abbrev pub settle_causes : Given → List ℕ → ℕ → List (ℕ × Bool)
settle_causes G store i = call_causes G (Store (length store)) (settle_own store i)

abbrev pub told : Settled → List ℕ
told (Forced v) = 0 ∷ v ∷ []
told (Free c) = 1 ∷ c ∷ []

abbrev pub answer_of : Result Settled Refusal → Answer
answer_of a = answer_with told a

abbrev pub values_of : Standing → List ℕ
values_of (forced v) = 0 ∷ v ∷ []
values_of (free c) = 1 ∷ c ∷ []

-- the call as a whole
abbrev pub settle_answer : Given → List ℕ → ℕ → Answer
settle_answer G store i = answer (first (settle_causes G store i)) (values_of (standing_of G store i))

-- "Forced means that all coefficients reproducing the store give that residue there; Free means that they don't", with the column at which
-- "clearing the row from the left may stop". Filing a value below s tells the same: it implies the forced residue and contradicts any other value,
-- and is new with the free column, whatever the value
pub record Settles (G : Given) (store : List ℕ) (i : ℕ) : Type 0 where
  pub when-forced : (v : ℕ) → (settle_answer G store i ≡ answer_of (Ok (Forced v))) ↔ Gives G store i v
  pub when-free : ((c : ℕ) × (settle_answer G store i ≡ answer_of (Ok (Free c)))) ↔ ((v : ℕ) → Gives G store i v → ⊥)
  pub stops : (c : ℕ) → (settle_answer G store i ≡ answer_of (Ok (Free c)))
      ↔ FirstOpen G.numbers.p (columns G.numbers) (cells (columns G.numbers) store) (equation G i 0) c
  pub implied : (v : ℕ) → v < G.numbers.s → (settle_answer G store i ≡ answer_of (Ok (Forced v))) ↔ (file_answer G store i v ≡ filing.answer_of (Ok Implied))
  pub contradicted : (u v : ℕ) → v < G.numbers.s → settle_answer G store i ≡ answer_of (Ok (Forced u)) → v ≢ u
      → file_answer G store i v ≡ filing.answer_of (Err Contradiction)
  pub new : (c v : ℕ) → v < G.numbers.s → (settle_answer G store i ≡ answer_of (Ok (Free c))) ↔ (file_answer G store i v ≡ filing.answer_of (Ok (New c)))
