-- 01, "From entry to row", and 02, C-11: digits, variables, rows, and cause 7. Stands on `Numbers` and `Parts`; G is a plan as lent.
--     digit R i j               digit j of entry i: "splitting an entry number into digits follows [the radices], x_0 still the most significant"
--     digits G i                the n digits of entry i
--     link P w T xs k           "the value of link table k at the sum of link k's weights, each times its variable among 0 to n+k−1, modulo p"
--     chain G i k               the first n + k variables of entry i
--     values G i                all L variables of entry i
--     weighted P d xs b         "the sum of d row b's weights each times its variable"
--     row_place P d xs c        place c of the row: block c / L, variable c % L
--     row G i                   row i, C residues
--     entry_cause G i           7, "entry not below s^n", with the product of the radices for s^n
--     row_own i G               the call `row`: its own causes; `row_causes G i out`: all that it can meet, 1 2 3 4 5 7
use Rattle.std.specs.Prelude.{Bool, not, cond, List, [], ◌∷◌, ◌++◌, ℕ, zero, suc, ◌+◌, ◌*◌, ◌/◌, ◌%◌, ltb, length, drop}
use Rattle.lists.specs.Places.{sum, tab, at}
use Rattle.plan.specs.Numbers.{variables, columns, product}
use Rattle.plan.specs.Parts.{Given, link_start, call_causes}
use Rattle.plan.specs.declared.numbers.Plan.{Plan}
use Rattle.plan.specs.declared.admission.Own.TheVariants.{Row}

unfoldable pub digit : List ℕ → ℕ → ℕ → ℕ
digit R i j = i / product (drop (suc j) R) % at R j

abbrev pub digits : Given → ℕ → List ℕ
digits G i = tab G.numbers.n (digit G.radices i)

unfoldable pub link : Plan → List ℕ → List ℕ → List ℕ → ℕ → ℕ
link P w T xs k = at T (k * P.p + sum (λ j. at w (link_start P k + j) * at xs j) (P.n + k) % P.p)

unfoldable pub chain : Given → ℕ → ℕ → List ℕ
chain G i zero = digits G i
chain G i (suc k) = chain G i k ++ (link G.numbers G.weights G.tables (chain G i k) k ∷ [])

unfoldable pub values : Given → ℕ → List ℕ
values G i = chain G i G.numbers.m

unfoldable pub weighted : Plan → List ℕ → List ℕ → ℕ → ℕ
weighted P d xs b = sum (λ k. at d (b * variables P + k) * at xs k) (variables P)

unfoldable pub row_place : Plan → List ℕ → List ℕ → ℕ → ℕ
row_place P d xs c =
    cond (ltb (c / variables P) P.t) (at xs (c % variables P) * weighted P d xs (c / variables P) % P.p)
    (at xs (c % variables P))

unfoldable pub row : Given → ℕ → List ℕ
row G i = tab (columns G.numbers) (row_place G.numbers G.products (values G i))

abbrev pub entry_cause : Given → ℕ → ℕ × Bool
entry_cause G i = (7, not (ltb i (product G.radices)))

abbrev pub row_own : ℕ → Given → List (ℕ × Bool)
row_own i G = entry_cause G i ∷ []

abbrev pub row_causes : Given → ℕ → List ℕ → List (ℕ × Bool)
row_causes G i out = call_causes G (Row (length out)) (row_own i)
