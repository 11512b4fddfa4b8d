-- 02, C-17: "To be shown: yes exactly when every table with values below s has coefficients." Over what `general` answers and what filing
-- answers, in the words of their contracts. Stands on `Demand3`, on `general`, and on `laws` for the number of filings that can be New.
--     IsTable G f               a table: f gives each entry of the plan a value below s
--     HasCoefficients G f       C residues that reproduce each entry with its value in f
--     SuitsAll G                every table with values below s has coefficients
--     General G work            what is claimed of the answer to `general`, lent this work store: yes exactly when the plan suits every table, and no
--                               exactly when it does not
--     new_of G S fs             how many calls of a list were answered New, told from the calls and their answers
use Rattle.std.specs.Prelude.{◌≡◌, true, false, cond, List, [], ◌∷◌, ◌↔◌, ℕ, ◌+◌, ◌<◌, length, Ok}
use Rattle.field.specs.Residues.{Residues}
use Rattle.plan.specs.Numbers.{columns, product}
use Rattle.plan.specs.Parts.{Given}
use Rattle.general.specs.Suits.{says_new, answer_of, general_answer}
use Rattle.demands.specs.Demand3.{Filing, ours, other, call, answer, store_after, Reproduces}

abbrev pub IsTable : Given → (ℕ → ℕ) → Type 0
IsTable G f = (i : ℕ) → i < product G.radices → f i < G.numbers.s

pub record HasCoefficients (G : Given) (f : ℕ → ℕ) : Type 0 where
  pub list : List ℕ
  pub places : length list ≡ columns G.numbers
  pub residues : Residues G.numbers.p list
  pub each : (i : ℕ) → i < product G.radices → Reproduces G list i (f i)

abbrev pub SuitsAll : Given → Type 0
SuitsAll G = (f : ℕ → ℕ) → IsTable G f → HasCoefficients G f

pub record General (G : Given) (work : List ℕ) : Type 0 where
  pub yes : (general_answer G work ≡ answer_of (Ok true)) ↔ SuitsAll G
  pub no : (general_answer G work ≡ answer_of (Ok false)) ↔ (SuitsAll G → ⊥)

unfoldable pub new_of : Given → List ℕ → List Filing → ℕ
new_of G S [] = 0
new_of G S (ours i v ∷ fs) = cond (says_new (answer (call G S i v))) 1 0 + new_of G (store_after (call G S i v)) fs
new_of G S (other c ∷ fs) = new_of G S fs
