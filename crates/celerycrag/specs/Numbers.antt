-- An exported call returns 01's number of its answer (`number_of`), and each value that goes with it goes through a lent number, which a
-- refusal leaves alone (01, "Turned down": "Returned" and "Left as it was"). Stands on the answers of `plan`.
--     value_of a i old          value i of the answer a; old, as it was, of a refusal
--     case_of a k none old      the value of the answer a, whose values are the number of a case and what goes with it, where that case is k; none
--                              where it is another; old, as it was, of a refusal
--     line_after lines old      the line that comes with a refusal; old, as it was, where none does (02, C-15: 13 and 15 have a line)
--     length_of k n old         the number n of step numbers that the writer filled, where its refusal k is 0
use Rattle.std.specs.Prelude.{cond, List, [], ◌∷◌, ℕ, zero, suc, eqb}
use Rattle.lists.specs.Places.{at}
use Rattle.plan.specs.Causes.{Answer, gives, refuses}

abbrev pub value_of : Answer → ℕ → ℕ → ℕ
value_of (gives vs) i old = at vs i
value_of (refuses k) i old = old

abbrev pub case_of : Answer → ℕ → ℕ → ℕ → ℕ
case_of (gives vs) k none old = cond (eqb (at vs 0) k) (at vs 1) none
case_of (refuses j) k none old = old

abbrev pub line_after : List ℕ → ℕ → ℕ
line_after [] old = old
line_after (j ∷ js) old = j

abbrev pub length_of : ℕ → ℕ → ℕ → ℕ
length_of zero n old = n
length_of (suc k) n old = old
