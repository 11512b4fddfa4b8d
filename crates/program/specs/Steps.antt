-- 01, "The written program" (steps and tables) and "Running it".
-- A step list is a list of numbers, four to a step: kind, to, from, by. Registers are read by number; the run knows no writer. Stands
-- on `plan`, and on `field` for the two square tables.
--     last_register P             y, register L+4
--     table_at P T k z            table k at z: link table k, table m or table m+1
--     kind_of steps i, to_of steps i, from_of steps i, by_of steps i     the four numbers of step i
--     good_step P kind to from by  the step meets none of the conditions of cause 11, as a test
--     well_formed P steps         the list meets none of them, as a test
--     Registers                   the registers, by number
--     assigned f r v              the registers f with register r set to v
--     stepped P T f kind to from by    the registers f after one step
--     registers P T steps digits k     the registers after the first k steps: "Registers 0 to n−1 start as the digits, all others as 0"
--     bootstraps steps            "the count of kind 2 steps in the list given"
--     output P T steps digits     y after the whole list
use Rattle.std.specs.Prelude.{Bool, cond, ◌&&◌, List, ℕ, zero, suc, ◌+◌, ◌*◌, ◌/◌, ◌%◌, eqb, ltb, leb, length}
use Rattle.lists.specs.Places.{sum, every, at}
use Rattle.field.specs.Residues.{square, minus_square}
use Rattle.plan.specs.declared.numbers.Plan.{Plan}
use Rattle.plan.specs.Numbers.{variables}

abbrev pub last_register : Plan → ℕ
last_register P = variables P + 4

unfoldable pub table_at : Plan → List ℕ → ℕ → ℕ → ℕ
table_at P T k z =
    cond (ltb k P.m) (at T (k * P.p + z)) (cond (eqb k P.m) (square P.p z) (minus_square P.p z))

abbrev pub kind_of : List ℕ → ℕ → ℕ
kind_of steps i = at steps (4 * i)

abbrev pub to_of : List ℕ → ℕ → ℕ
to_of steps i = at steps (4 * i + 1)

abbrev pub from_of : List ℕ → ℕ → ℕ
from_of steps i = at steps (4 * i + 2)

abbrev pub by_of : List ℕ → ℕ → ℕ
by_of steps i = at steps (4 * i + 3)

-- cause 11: "kind above 2, register above L+4, kind 1 `by` not below p, table above m+1, a kind 0 `from` or `by` not 0"
unfoldable pub good_step : Plan → ℕ → ℕ → ℕ → ℕ → Bool
good_step P kind to from by =
    (leb kind 2 && (leb to (last_register P) && leb from (last_register P)))
    && cond (eqb kind 0) (eqb from 0 && eqb by 0) (cond (eqb kind 1) (ltb by P.p) (leb by (P.m + 1)))

unfoldable pub well_formed : Plan → List ℕ → Bool
well_formed P steps =
    eqb (length steps % 4) 0
    && every (λ i. good_step P (kind_of steps i) (to_of steps i) (from_of steps i) (by_of steps i)) (length steps / 4)

abbrev pub Registers : Type 0
Registers = ℕ → ℕ

unfoldable pub assigned : Registers → ℕ → ℕ → Registers
assigned f r v k = cond (eqb k r) v (f k)

-- "Kind 0: register `to` becomes 0. Kind 1: `to` gains by times `from`, modulo p. Kind 2, a bootstrap: `to` becomes table number `by` at `from`."
unfoldable pub stepped : Plan → List ℕ → Registers → ℕ → ℕ → ℕ → ℕ → Registers
stepped P T f kind to from by =
    cond (eqb kind 0) (assigned f to 0)
    (cond (eqb kind 1) (assigned f to ((f to + by * f from) % P.p)) (assigned f to (table_at P T by (f from))))

unfoldable pub registers : Plan → List ℕ → List ℕ → List ℕ → ℕ → Registers
registers P T steps digits zero = at digits
registers P T steps digits (suc k) =
    stepped P T (registers P T steps digits k) (kind_of steps k) (to_of steps k) (from_of steps k) (by_of steps k)

unfoldable pub bootstraps : List ℕ → ℕ
bootstraps steps = sum (λ i. cond (eqb (kind_of steps i) 2) 1 0) (length steps / 4)

unfoldable pub output : Plan → List ℕ → List ℕ → List ℕ → ℕ
output P T steps digits = registers P T steps digits (length steps / 4) (last_register P)
