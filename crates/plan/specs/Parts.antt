-- 01, "The plan", and 02, C-11: a plan as it is lent, its five numbers and the parts that it carries, one flat slice each; and causes 4
-- and 5. First "a line of n radices". Then "link weights: link k (from 0) has n+k weights, links in order; link tables: p values each, for the
-- sums 0 to p−1 in order; product weights d: t rows of L. All are residues 0 to p−1, one byte each." Stands on `Numbers`, and on `field` for
-- rows of residues.
--     Given                       a plan as lent; `lend P R w T d`: of these numbers and parts, `given p s n m t R w T d`: of these five numbers
--     link_start P k              where link k's weights begin: after the n + i weights of each link i before it
--     lengths_fit P w T d         each part has the length that the plan says, as a test
--     values_fit P w T d          each weight and table value is below p, as a test
--     store_size C                the bytes of a store, "C(C+1)/2 + C bytes" (02, C-16)
--     full_size C                 the bytes of a store in the layout before that, "C rows of C+1 bytes"
--     own_fits own P R            the call's own parts have the lengths that the plan says: a row or β has C places, digits are n, records are as
--                                 many as entries
--     part_causes G fits          causes 4 ("cause 4 their number", of the radices) and 5; fits says whether the call's own parts have their lengths
--     call_causes G own rest      all causes of a call that is lent a plan: 1 to 3, 4 and 5, then the rest, the call's own
--     check_causes G              the causes of the call `check`, which has none of its own: 1 2 3 4 5
--     admitted G own              what every call goes on with: the plan's numbers, or the first of causes 1 to 5
--     Lent G                      the parts meet neither of causes 4 and 5, nor the radices causes 2 and 3
use Rattle.std.specs.Prelude.{◌≡◌, Bool, true, not, ◌&&◌, List, [], ◌∷◌, ◌++◌, ℕ, ◌+◌, ◌*◌, ◌/◌, eqb, leb, length}
use Rattle.lists.specs.Places.{sum}
use Rattle.field.specs.Residues.{Residues}
use Rattle.field.specs.Rows.{all_below}
use Rattle.plan.specs.Causes.{first, Answer, answer}
use Rattle.plan.specs.Numbers.{variables, columns, product, number_causes, plan, numbers_of, Radices}
use Rattle.plan.specs.declared.numbers.Plan.{Plan}
use Rattle.plan.specs.declared.admission.Own.{Own}
use Rattle.plan.specs.declared.admission.Own.TheVariants.{Nothing, Row, Store, StoreAndRow, StoreAndFull, StoresAndRecords, Digits}

pub record Given : Type 0 where
  pub numbers : Plan
  pub radices : List ℕ
  pub weights : List ℕ
  pub tables : List ℕ
  pub products : List ℕ

abbrev pub lend : Plan → List ℕ → List ℕ → List ℕ → List ℕ → Given
lend P R w T d = record { numbers = P; radices = R; weights = w; tables = T; products = d }

abbrev pub given : ℕ → ℕ → ℕ → ℕ → ℕ → List ℕ → List ℕ → List ℕ → List ℕ → Given
given p s n m t R w T d = lend (plan p s n m t) R w T d

abbrev pub link_start : Plan → ℕ → ℕ
link_start P k = sum (λ i. P.n + i) k

unfoldable pub lengths_fit : Plan → List ℕ → List ℕ → List ℕ → Bool
lengths_fit P w T d =
    eqb (length w) (link_start P P.m) && (eqb (length T) (P.m * P.p) && eqb (length d) (P.t * variables P))

unfoldable pub values_fit : Plan → List ℕ → List ℕ → List ℕ → Bool
values_fit P w T d = all_below P.p w && (all_below P.p T && all_below P.p d)

unfoldable pub store_size : ℕ → ℕ
store_size C = C * (C + 1) / 2 + C

unfoldable pub full_size : ℕ → ℕ
full_size C = C * (C + 1)

-- "a lent part (weights, tables, d, row, β, store, digits) of another length than the plan says": the last four, by the lengths lent. A move is
-- lent a store in either layout; a call with records is lent a store, a work store and the records, and 02, C-18, says: "A list of records of
-- another length, or a count above it, is cause 4"
abbrev pub own_fits : Own → Plan → List ℕ → Bool
own_fits Nothing P R = true
own_fits (Row k) P R = eqb k (columns P)
own_fits (Store k) P R = eqb k (store_size (columns P))
own_fits (StoreAndRow k j) P R = eqb k (store_size (columns P)) && eqb j (columns P)
own_fits (StoreAndFull k j) P R = eqb k (store_size (columns P)) && eqb j (full_size (columns P))
own_fits (StoresAndRecords k j r count) P R =
    eqb k (store_size (columns P)) && (eqb j (store_size (columns P)) && (eqb r (product R) && leb count r))
own_fits (Digits k) P R = eqb k P.n

abbrev pub part_causes : Given → Bool → List (ℕ × Bool)
part_causes G fits =
    (4, not (eqb (length G.radices) G.numbers.n && (lengths_fit G.numbers G.weights G.tables G.products && fits)))
    ∷ (5, not (values_fit G.numbers G.weights G.tables G.products))
    ∷ []

unfoldable pub call_causes : Given → Own → (Given → List (ℕ × Bool)) → List (ℕ × Bool)
call_causes G own rest =
    let P = G.numbers in
    number_causes P.p P.s P.n P.m P.t G.radices ++ (part_causes G (own_fits own P G.radices) ++ rest G)

abbrev pub check_causes : Given → List (ℕ × Bool)
check_causes G = call_causes G Nothing (λ _. [])

unfoldable pub admitted : Given → Own → Answer
admitted G own = answer (first (call_causes G own (λ _. []))) (numbers_of G.numbers)

pub record Lent (G : Given) : Type 0 where
  pub radices : Radices G.numbers G.radices
  pub weights-length : length G.weights ≡ link_start G.numbers G.numbers.m
  pub tables-length : length G.tables ≡ G.numbers.m * G.numbers.p
  pub products-length : length G.products ≡ G.numbers.t * variables G.numbers
  pub weights-residues : Residues G.numbers.p G.weights
  pub tables-residues : Residues G.numbers.p G.tables
  pub products-residues : Residues G.numbers.p G.products
