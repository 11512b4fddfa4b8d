-- 01, "Turned down": "Each call tests the causes it can meet in number order." A call's refusal is one list of causes, each a number
-- with its condition, in that order. What a call answers is 01's number with the values that go with it: "Where an answer is an enum, a
-- definition gives this paper's number and values for each of the enum's cases, and the promises use this definition"; that definition is
-- `answer_of` beside each answer. Stands on the standard library alone; every call above states its causes and its answer so.
--     first causes         the number of the first cause whose condition holds, else 0: the call's refusal
--     leaves k new old     what a call leaves in what it is lent: new where its refusal k is 0, and old, as it was at entry, otherwise
--     Answer               `gives vs`: accepted, 01's number 0 with the values vs; `refuses k`: 01's number k, and no values
--     answer k vs          the answer of a call by its refusal k and its values vs
--     number_of a          01's number of an answer
--     number r             01's number of a refusal by its name in the code
--     answer_with vs r        the answer for what the code returns, a refusal or a value with the values vs of it
--     refusal_of r         01's number of what the code returns, 0 where that is no refusal
use Rattle.std.specs.Prelude.{Bool, cond, List, [], ◌∷◌, ℕ, zero, suc, Result, Ok, Err}
use Rattle.plan.specs.declared.refusal.Refusal.{Refusal}
use Rattle.plan.specs.declared.refusal.Refusal.TheVariants.{Prime, Radix, Range, Length, Residue, Unreduced, Entry, Value, Contradiction, Room, Step, Digit, Line, Columns, Foreign, Records, Unlisted}

abbrev pub first : List (ℕ × Bool) → ℕ
first [] = 0
first (cause ∷ causes) = cond cause.1 cause.0 (first causes)

abbrev pub leaves {ℓ} : {A : Type ℓ} → ℕ → A → A → A
leaves zero new old = new
leaves (suc k) new old = old

pub data Answer : Type 0 where
  gives : List ℕ → Answer
  refuses : ℕ → Answer

abbrev pub answer : ℕ → List ℕ → Answer
answer zero vs = gives vs
answer (suc k) vs = refuses (suc k)

abbrev pub number_of : Answer → ℕ
number_of (gives vs) = 0
number_of (refuses k) = k

abbrev pub number : Refusal → ℕ
number Prime = 1
number Radix = 2
number Range = 3
number Length = 4
number Residue = 5
number Unreduced = 6
number Entry = 7
number Value = 8
number Contradiction = 9
number Room = 10
number Step = 11
number Digit = 12
number Line = 13
number Columns = 14
number Foreign = 15
number Records = 16
number Unlisted = 17

abbrev pub answer_with : {A : Type 0} → (A → List ℕ) → Result A Refusal → Answer
answer_with vs (Ok a) = gives (vs a)
answer_with vs (Err r) = refuses (number r)

abbrev pub refusal_of : {A : Type 0} → Result A Refusal → ℕ
refusal_of (Ok a) = 0
refusal_of (Err r) = number r
