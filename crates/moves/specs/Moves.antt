-- 02, C-16: "Stores on disk move to the new layout and back without loss." The layout before it, the moves, and what the calls answered over the
-- old layout, word for word as it was. Both layouts are readings by row and column, and nothing else of a call knows them. G is a plan as lent.
-- Stands on `Elimination`, `Calls` and `Settled` of `store`.
--     full_cells C full, full_flat C S    "C rows of C+1 bytes" (01): their reading by row and column, and the bytes of such a reading
--     halved C full                  an old store moved to the new layout
--     widened C half                 a new store moved to the old layout: the old store that it stands for
--     full_cause P full              6 of an old store
--     to_half_causes, to_full_causes  the causes of the moves: 1 2 3 4 5, where 4 is of either length, and "either move refuses others with 6"
--     NoLoss G                       what a move gives, the other takes, and gives back what it was
--     full_causes G full rest        the causes of a call on an old store: 1 to 5, then the rest
--     full_file_answer, full_file_store, full_settle_answer, full_coefficients  filing, settling and reading off over an old store
--     SameCalls G full i v           "All filing replies and coefficients equal those of the old layout"; the stores left, and the replies of settling too
--     filed_all, full_filed_all      the store after a list of filings, refused ones included, in each layout
--     SameFilings G full             the same after every list of filings, each on the store that the one before left
use Rattle.std.specs.Prelude.{◌≡◌, Bool, not, List, [], ◌∷◌, ◌++◌, ℕ, ◌+◌, ◌*◌, ◌/◌, ◌%◌, eqb, length}
use Rattle.lists.specs.Places.{tab, at}
use Rattle.plan.specs.declared.numbers.Plan.{Plan}
use Rattle.plan.specs.declared.admission.Own.TheVariants.{StoreAndFull}
use Rattle.plan.specs.Numbers.{columns, number_causes}
use Rattle.plan.specs.Causes.{first, leaves, Answer, answer}
use Rattle.plan.specs.Parts.{Given, full_size, part_causes, call_causes}
use Rattle.plan.specs.Rows.{entry_cause}
use Rattle.store.specs.Elimination.{Outcome, is_reduced, outcome, after, read_off, cells, flat}
use Rattle.store.specs.Filings.{is_contradiction}
use Rattle.store.specs.Calls as filing
use Rattle.store.specs.Calls.{equation, store_cause, value_cause, file_answer, file_store, coefficients}
use Rattle.store.specs.Settled as settled
use Rattle.store.specs.Settled.{Standing, standing, settle_answer}

abbrev pub full_cells : ℕ → List ℕ → ℕ → ℕ → ℕ
full_cells C full q j = at full (q * (C + 1) + j)

unfoldable pub full_flat : ℕ → (ℕ → ℕ → ℕ) → List ℕ
full_flat C S = tab (full_size C) (λ k. S (k / (C + 1)) (k % (C + 1)))

abbrev pub halved : ℕ → List ℕ → List ℕ
halved C full = flat C (full_cells C full)

abbrev pub widened : ℕ → List ℕ → List ℕ
widened C half = full_flat C (cells C half)

abbrev pub full_cause : Plan → List ℕ → ℕ × Bool
full_cause P full = (6, not (is_reduced P.p (columns P) (full_cells (columns P) full)))

abbrev pub to_half_own : List ℕ → Given → List (ℕ × Bool)
to_half_own full G = full_cause G.numbers full ∷ []

abbrev pub to_half_causes : Given → List ℕ → List ℕ → List (ℕ × Bool)
to_half_causes G full half = call_causes G (StoreAndFull (length half) (length full)) (to_half_own full)

abbrev pub to_full_own : List ℕ → Given → List (ℕ × Bool)
to_full_own half G = store_cause G.numbers half ∷ []

abbrev pub to_full_causes : Given → List ℕ → List ℕ → List (ℕ × Bool)
to_full_causes G half full = call_causes G (StoreAndFull (length half) (length full)) (to_full_own half)

pub record NoLoss (G : Given) : Type 0 where
  pub back : (full half : List ℕ) → first (to_half_causes G full half) ≡ 0
      → (first (to_full_causes G (halved (columns G.numbers) full) full) ≡ 0) × (widened (columns G.numbers) (halved (columns G.numbers) full) ≡ full)
  pub again : (half full : List ℕ) → first (to_full_causes G half full) ≡ 0
      → (first (to_half_causes G (widened (columns G.numbers) half) half) ≡ 0) × (halved (columns G.numbers) (widened (columns G.numbers) half) ≡ half)

-- the calls on an old store, as they were
abbrev pub full_causes : Given → List ℕ → List (ℕ × Bool) → List (ℕ × Bool)
full_causes G full rest =
    let P = G.numbers in
    number_causes P.p P.s P.n P.m P.t G.radices ++ (part_causes G (eqb (length full) (full_size (columns P))) ++ (full_cause P full ∷ rest))

abbrev pub full_outcome : Given → List ℕ → ℕ → ℕ → Outcome
full_outcome G full i v = outcome G.numbers.p (columns G.numbers) (full_cells (columns G.numbers) full) (equation G i v)

abbrev pub full_file_causes : Given → List ℕ → ℕ → ℕ → List (ℕ × Bool)
full_file_causes G full i v =
    full_causes G full (entry_cause G i ∷ value_cause G.numbers v ∷ (9, is_contradiction (full_outcome G full i v)) ∷ [])

abbrev pub full_file_answer : Given → List ℕ → ℕ → ℕ → Answer
full_file_answer G full i v = answer (first (full_file_causes G full i v)) (filing.values_of (full_outcome G full i v))

abbrev pub full_file_store : Given → List ℕ → ℕ → ℕ → List ℕ
full_file_store G full i v =
    let C = columns G.numbers in
    leaves (first (full_file_causes G full i v)) (full_flat C (after G.numbers.p C (full_cells C full) (equation G i v))) full

abbrev pub full_standing : Given → List ℕ → ℕ → Standing
full_standing G full i = standing G.numbers.p (columns G.numbers) (full_cells (columns G.numbers) full) (equation G i 0)

abbrev pub full_settle_answer : Given → List ℕ → ℕ → Answer
full_settle_answer G full i = answer (first (full_causes G full (entry_cause G i ∷ []))) (settled.values_of (full_standing G full i))

unfoldable pub full_coefficients : ℕ → List ℕ → List ℕ
full_coefficients C full = tab C (read_off C (full_cells C full))

pub record SameCalls (G : Given) (full : List ℕ) (i v : ℕ) : Type 0 where
  pub reply : file_answer G (halved (columns G.numbers) full) i v ≡ full_file_answer G full i v
  pub store : file_store G (halved (columns G.numbers) full) i v ≡ halved (columns G.numbers) (full_file_store G full i v)
  pub settles : settle_answer G (halved (columns G.numbers) full) i ≡ full_settle_answer G full i
  pub read : coefficients (columns G.numbers) (halved (columns G.numbers) full) ≡ full_coefficients (columns G.numbers) full

unfoldable pub filed_all : Given → List ℕ → List (ℕ × ℕ) → List ℕ
filed_all G store [] = store
filed_all G store (x ∷ xs) = filed_all G (file_store G store x.0 x.1) xs

unfoldable pub full_filed_all : Given → List ℕ → List (ℕ × ℕ) → List ℕ
full_filed_all G full [] = full
full_filed_all G full (x ∷ xs) = full_filed_all G (full_file_store G full x.0 x.1) xs

pub record SameFilings (G : Given) (full : List ℕ) (xs : List (ℕ × ℕ)) : Type 0 where
  pub stores : filed_all G (halved (columns G.numbers) full) xs ≡ halved (columns G.numbers) (full_filed_all G full xs)
  pub calls : (i v : ℕ) → SameCalls G (full_filed_all G full xs) i v
