-- 02, C-18: lists of entries with their values, and cause 16. G is a plan as lent, S a store, l a list. Stands on the filings of `store`.
--     Pair                 an entry and its value
--     has l i              entry i is listed, as a test
--     distinct l           no entry is listed twice, as a test
--     place_of l i         the place of entry i in the list; the list's length where it is not listed
--     value_of l i         its value; 0 where it is not listed
--     without l i          the list without entry i: "the remaining list"
--     filed_on G S l       the store after the pairs of l, "filed in order" on the store S
--     pair_causes G S x    what refuses a pair that is filed on S: 7, 8 and 9
--     accepts G S l        no pair "is refused when filed in order" on S, as a test
--     sound G S l          cause 16 denied: the list names no entry twice, none of it is refused when filed in order on an empty store, and the
--                          outcome is the store S
use Rattle.std.specs.Prelude.{Bool, true, false, cond, not, ◌&&◌, ◌||◌, List, [], ◌∷◌, ℕ, suc, eqb}
use Rattle.lists.specs.Places.{same}
use Rattle.plan.specs.Causes.{first}
use Rattle.plan.specs.Parts.{Given}
use Rattle.plan.specs.Rows.{entry_cause}
use Rattle.store.specs.Calls.{empty_store, value_cause, conflict_cause, filed}

abbrev pub Pair : Type 0
Pair = ℕ × ℕ

unfoldable pub has : List Pair → ℕ → Bool
has [] i = false
has (x ∷ l) i = eqb x.0 i || has l i

unfoldable pub distinct : List Pair → Bool
distinct [] = true
distinct (x ∷ l) = not (has l x.0) && distinct l

unfoldable pub place_of : List Pair → ℕ → ℕ
place_of [] i = 0
place_of (x ∷ l) i = let later = place_of l i in cond (eqb x.0 i) 0 (suc later)

unfoldable pub value_of : List Pair → ℕ → ℕ
value_of [] i = 0
value_of (x ∷ l) i = let later = value_of l i in cond (eqb x.0 i) x.1 later

unfoldable pub without : List Pair → ℕ → List Pair
without [] i = []
without (x ∷ l) i = let later = without l i in cond (eqb x.0 i) later (x ∷ later)

unfoldable pub filed_on : Given → List ℕ → List Pair → List ℕ
filed_on G S [] = S
filed_on G S (x ∷ l) = filed_on G (filed G S x.0 x.1) l

abbrev pub pair_causes : Given → List ℕ → Pair → List (ℕ × Bool)
pair_causes G S x = entry_cause G x.0 ∷ value_cause G.numbers x.1 ∷ conflict_cause G S x.0 x.1 ∷ []

unfoldable pub accepts : Given → List ℕ → List Pair → Bool
accepts G S [] = true
accepts G S (x ∷ l) = eqb (first (pair_causes G S x)) 0 && accepts G (filed G S x.0 x.1) l

unfoldable pub sound : Given → List ℕ → List Pair → Bool
sound G S l = distinct l && (accepts G (empty_store G.numbers) l && same S (filed_on G (empty_store G.numbers) l))
