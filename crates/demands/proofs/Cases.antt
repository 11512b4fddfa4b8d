-- 01, "Cases (those with * are proved)": one collected table of facts about the definitions; and 02: facts about a plan whose digits have radices
-- of their own (C-11), about the entries that are settled (C-12), about the state of the store test (C-13), and about the moves (C-16). Each computes.
-- X is the XOR plan; L is the plan with one link of weight 1 and table 1, 0, 0; F has p = 5; M has a month and a bit; D has one digit of radix
-- p = 5. Assumes nothing.
use mathlib.Core.Path.{◌≡◌, refl}
use mathlib.Core.Bool.{Bool, true, false}
use mathlib.Core.List.{List, [], ◌∷◌}
use Prim.Native.Nat.{ℕ, ◌+◌, ◌*◌, ◌%◌}
use Rattle.std.specs.Prelude.{Ok, Err}
use Rattle.lists.specs.Places.{sum, tab, every, joined}
use Rattle.field.specs.Primes.{is_prime, odd_prime}
use Rattle.field.specs.Residues.{inverse, square, minus_square}
use Rattle.plan.specs.Causes.{first, gives, refuses}
use Rattle.plan.specs.Numbers.{product, bad_radix, radices_fit, out_of_range}
use Rattle.plan.specs.Parts.{Given, given, lengths_fit, values_fit, store_size, full_size, call_causes}
use Rattle.plan.specs.Rows.{digit, digits, link, chain, values, weighted, row_place, row}
use Rattle.plan.specs.declared.refusal.Refusal.TheVariants.{Length, Unreduced, Entry, Value, Contradiction}
use Rattle.store.specs.declared.elimination.Filed.TheVariants.{New, Implied}
use Rattle.store.specs.Elimination.{is_zero_row, is_pivot, is_reduced, residual, lead, normal, inserted, outcome, after, row_start, cells, flat}
use Rattle.store.specs.Calls.{answer_of, filed, coefficients}
use Rattle.store.specs.declared.settling.Settled.TheVariants.{Forced, Free}
use Rattle.store.specs.Settled as settling
use Rattle.store.specs.Settled.{standing, settle_answer}
use Rattle.store.specs.Reading.{State, state_of, row_sound, counted, state_after, is_damaged, row_of}
use Rattle.moves.specs.FullRows.{full_after}
use Rattle.moves.specs.Moves.{full_flat, halved, widened, to_half_causes, to_full_causes, full_file_answer, full_file_store}
use Rattle.program.specs.Steps.{table_at, good_step, well_formed, assigned, stepped, registers, bootstraps, output}
use Rattle.program.specs.Layout.{adds, link_steps, product_steps, layout, step_count}
use Rattle.program.specs.Calls.{digits_fit, run_answer}
use Rattle.demands.specs.Demand3.{Filing, ours, call, refusal, answer, store_after, empty_store, store_of}

abbrev pub X : Given
X = given 3 2 2 0 1 (2 ∷ 2 ∷ []) [] [] (1 ∷ 1 ∷ [])

abbrev pub L : Given
L = given 3 2 1 1 0 (2 ∷ []) (1 ∷ []) (1 ∷ 0 ∷ 0 ∷ []) []

abbrev pub F : Given
F = given 5 2 1 0 0 (2 ∷ []) [] [] []

-- "Customers' keys mix a month with a bit": p = 13, s = 3, no links and no products, radices 12 and 2
abbrev pub M : Given
M = given 13 3 2 0 0 (12 ∷ 2 ∷ []) [] [] []

abbrev pub D : Given
D = given 5 2 1 0 0 (5 ∷ []) [] [] []

-- the store after some filings
abbrev pub from : Given → List Filing → List ℕ
from G fs = store_of G (empty_store G) fs

pub record Starred : Type 0 where
  -- "X, empty: (1,1) New 1; then (2,1) New 0; then (3,0) New 2; β = 0 1 1 0."
  pub xor-1 : answer (call X (from X []) 1 1) ≡ answer_of (Ok (New 1))
  pub xor-2 : answer (call X (from X (ours 1 1 ∷ [])) 2 1) ≡ answer_of (Ok (New 0))
  pub xor-3 : answer (call X (from X (ours 1 1 ∷ ours 2 1 ∷ [])) 3 0) ≡ answer_of (Ok (New 2))
  pub xor-β : coefficients 4 (from X (ours 1 1 ∷ ours 2 1 ∷ ours 3 0 ∷ [])) ≡ 0 ∷ 1 ∷ 1 ∷ 0 ∷ []
  -- "Then (0,0) Implied; (0,1) gives 9; (3,1) gives 9."
  pub xor-4 : answer (call X (from X (ours 1 1 ∷ ours 2 1 ∷ ours 3 0 ∷ [])) 0 0) ≡ answer_of (Ok Implied)
  pub xor-5 : answer (call X (from X (ours 1 1 ∷ ours 2 1 ∷ ours 3 0 ∷ [])) 0 1) ≡ answer_of (Err Contradiction)
  pub xor-6 : answer (call X (from X (ours 1 1 ∷ ours 2 1 ∷ ours 3 0 ∷ [])) 3 1) ≡ answer_of (Err Contradiction)
  -- "X with 0,0,0,1 in entry order: β = 1 0 2 0."
  pub and-β : coefficients 4 (from X (ours 0 0 ∷ ours 1 0 ∷ ours 2 0 ∷ ours 3 1 ∷ [])) ≡ 1 ∷ 0 ∷ 2 ∷ 0 ∷ []
  -- "p=3, s=2, n=1, one link of weight 1 and table 1,0,0, t=0, values 1,0: β = 0 1, one bootstrap, 6 steps."
  pub link-β : coefficients 2 (from L (ours 0 1 ∷ ours 1 0 ∷ [])) ≡ 0 ∷ 1 ∷ []
  pub link-bootstraps : bootstraps (layout L.numbers L.weights L.products (0 ∷ 1 ∷ [])) ≡ 1
  pub link-steps : step_count L.numbers ≡ 6
  -- "p=5: table m is 0,4,1,1,4; table m+1 is 0,1,4,4,1; 2 times 3 gives 1."
  pub five-square : tab 5 (table_at F.numbers F.tables 0) ≡ 0 ∷ 4 ∷ 1 ∷ 1 ∷ 4 ∷ []
  pub five-minus : tab 5 (table_at F.numbers F.tables 1) ≡ 0 ∷ 1 ∷ 4 ∷ 4 ∷ 1 ∷ []
  pub five-product : (table_at F.numbers F.tables 0 ((2 + 3) % 5) + table_at F.numbers F.tables 1 ((2 + 4 * 3) % 5)) % 5 ≡ 1

pub starred : Starred
unfolding store_of store_after answer refusal filed coefficients call_causes store_size row_start cells product bad_radix radices_fit out_of_range odd_prime is_prime every lengths_fit values_fit is_zero_row is_pivot is_reduced residual lead normal inserted outcome after flat joined tab sum row row_place weighted values chain link digit inverse square minus_square table_at bootstraps layout step_count link_steps product_steps adds
starred =
    record {
      xor-1 = refl;
      xor-2 = refl;
      xor-3 = refl;
      xor-β = refl;
      xor-4 = refl;
      xor-5 = refl;
      xor-6 = refl;
      and-β = refl;
      link-β = refl;
      link-bootstraps = refl;
      link-steps = refl;
      five-square = refl;
      five-minus = refl;
      five-product = refl;
    }

pub record Mixed : Type 0 where
  -- 24 entries, "x_0 still the most significant"
  pub month-low : digits M 1 ≡ 0 ∷ 1 ∷ []
  pub month-some : digits M 14 ≡ 7 ∷ 0 ∷ []
  pub month-last : digits M 23 ≡ 11 ∷ 1 ∷ []
  -- the radices the other way round are another plan
  pub month-turned : digits (given 13 3 2 0 0 (2 ∷ 12 ∷ []) [] [] []) 14 ≡ 1 ∷ 2 ∷ []
  -- empty: (1,1) New 1; then (14,1) New 0; β = 2 1
  pub month-1 : answer (call M (from M []) 1 1) ≡ answer_of (Ok (New 1))
  pub month-2 : answer (call M (from M (ours 1 1 ∷ [])) 14 1) ≡ answer_of (Ok (New 0))
  pub month-β : coefficients 2 (from M (ours 1 1 ∷ ours 14 1 ∷ [])) ≡ 2 ∷ 1 ∷ []
  -- then (15,2) Implied, its value below s and not below the second radix; (15,1) gives 9, (24,0) gives 7, (15,3) gives 8
  pub month-3 : answer (call M (from M (ours 1 1 ∷ ours 14 1 ∷ [])) 15 2) ≡ answer_of (Ok Implied)
  pub month-4 : answer (call M (from M (ours 1 1 ∷ ours 14 1 ∷ [])) 15 1) ≡ answer_of (Err Contradiction)
  pub month-5 : answer (call M (from M (ours 1 1 ∷ ours 14 1 ∷ [])) 24 0) ≡ answer_of (Err Entry)
  pub month-6 : answer (call M (from M (ours 1 1 ∷ ours 14 1 ∷ [])) 15 3) ≡ answer_of (Err Value)
  -- the run takes each digit below its own radix: 7 1 passes, 12 0 and 7 2 give 12
  pub month-run : run_answer M (layout M.numbers [] [] (2 ∷ 1 ∷ [])) (7 ∷ 1 ∷ []) ≡ gives (2 ∷ 0 ∷ [])
  pub month-run-1 : run_answer M (layout M.numbers [] [] (2 ∷ 1 ∷ [])) (12 ∷ 0 ∷ []) ≡ refuses 12
  pub month-run-2 : run_answer M (layout M.numbers [] [] (2 ∷ 1 ∷ [])) (7 ∷ 2 ∷ []) ≡ refuses 12

pub mixed : Mixed
unfolding store_of store_after answer refusal filed coefficients call_causes store_size row_start cells product bad_radix radices_fit out_of_range odd_prime is_prime every lengths_fit values_fit is_zero_row is_pivot is_reduced residual lead normal inserted outcome after flat joined tab sum row row_place values chain digit inverse bootstraps layout adds well_formed good_step registers stepped assigned output digits_fit
mixed =
    record {
      month-low = refl;
      month-some = refl;
      month-last = refl;
      month-turned = refl;
      month-1 = refl;
      month-2 = refl;
      month-β = refl;
      month-3 = refl;
      month-4 = refl;
      month-5 = refl;
      month-6 = refl;
      month-run = refl;
      month-run-1 = refl;
      month-run-2 = refl;
    }

pub record Settled : Type 0 where
  -- X, empty: entry 0 has a zero row, which gives 0 whatever the coefficients; the others are free with the column that filing would answer
  pub empty-0 : settle_answer X (from X []) 0 ≡ settling.answer_of (Ok (Forced 0))
  pub empty-1 : settle_answer X (from X []) 1 ≡ settling.answer_of (Ok (Free 1))
  pub empty-2 : settle_answer X (from X []) 2 ≡ settling.answer_of (Ok (Free 0))
  pub empty-3 : settle_answer X (from X []) 3 ≡ settling.answer_of (Ok (Free 0))
  -- with (1,1) and (2,1): these are forced with their values, entry 3 is free with column 2
  pub two-0 : settle_answer X (from X (ours 1 1 ∷ ours 2 1 ∷ [])) 0 ≡ settling.answer_of (Ok (Forced 0))
  pub two-1 : settle_answer X (from X (ours 1 1 ∷ ours 2 1 ∷ [])) 1 ≡ settling.answer_of (Ok (Forced 1))
  pub two-2 : settle_answer X (from X (ours 1 1 ∷ ours 2 1 ∷ [])) 2 ≡ settling.answer_of (Ok (Forced 1))
  pub two-3 : settle_answer X (from X (ours 1 1 ∷ ours 2 1 ∷ [])) 3 ≡ settling.answer_of (Ok (Free 2))
  -- after (3,0) every entry is forced with its value
  pub three-0 : settle_answer X (from X (ours 1 1 ∷ ours 2 1 ∷ ours 3 0 ∷ [])) 0 ≡ settling.answer_of (Ok (Forced 0))
  pub three-1 : settle_answer X (from X (ours 1 1 ∷ ours 2 1 ∷ ours 3 0 ∷ [])) 1 ≡ settling.answer_of (Ok (Forced 1))
  pub three-2 : settle_answer X (from X (ours 1 1 ∷ ours 2 1 ∷ ours 3 0 ∷ [])) 2 ≡ settling.answer_of (Ok (Forced 1))
  pub three-3 : settle_answer X (from X (ours 1 1 ∷ ours 2 1 ∷ ours 3 0 ∷ [])) 3 ≡ settling.answer_of (Ok (Forced 0))
  -- a forced residue may be s or more: with (1,1) under D entry 3 is forced with 3, and no value is left for it
  pub digit-3 : settle_answer D (from D (ours 1 1 ∷ [])) 3 ≡ settling.answer_of (Ok (Forced 3))
  pub digit-0 : answer (call D (from D (ours 1 1 ∷ [])) 3 0) ≡ answer_of (Err Contradiction)
  pub digit-1 : answer (call D (from D (ours 1 1 ∷ [])) 3 1) ≡ answer_of (Err Contradiction)
  -- a month and a bit: with (1,1) entry 14 is free; after (14,1) all are forced, entry 15 with 2, entry 23 with 11 * 2 + 1 modulo 13
  pub month-14 : settle_answer M (from M (ours 1 1 ∷ [])) 14 ≡ settling.answer_of (Ok (Free 0))
  pub month-15 : settle_answer M (from M (ours 1 1 ∷ ours 14 1 ∷ [])) 15 ≡ settling.answer_of (Ok (Forced 2))
  pub month-23 : settle_answer M (from M (ours 1 1 ∷ ours 14 1 ∷ [])) 23 ≡ settling.answer_of (Ok (Forced 10))
  -- 7 for an entry out of range; 6 for a store that is not in reduced form, before 7; 4 for one of another length, before 6
  pub no-entry : settle_answer D (from D []) 5 ≡ settling.answer_of (Err Entry)
  pub damaged : settle_answer D (2 ∷ 0 ∷ []) 5 ≡ settling.answer_of (Err Unreduced)
  pub too_long : settle_answer D (2 ∷ 0 ∷ 0 ∷ []) 5 ≡ settling.answer_of (Err Length)

pub settled-entries : Settled
unfolding store_of store_after answer refusal filed call_causes store_size row_start cells product bad_radix radices_fit out_of_range odd_prime is_prime every lengths_fit values_fit is_zero_row is_pivot is_reduced residual lead normal inserted outcome after flat joined tab sum row row_place weighted values chain digit inverse standing
settled-entries =
    record {
      empty-0 = refl;
      empty-1 = refl;
      empty-2 = refl;
      empty-3 = refl;
      two-0 = refl;
      two-1 = refl;
      two-2 = refl;
      two-3 = refl;
      three-0 = refl;
      three-1 = refl;
      three-2 = refl;
      three-3 = refl;
      digit-3 = refl;
      digit-0 = refl;
      digit-1 = refl;
      month-14 = refl;
      month-15 = refl;
      month-23 = refl;
      no-entry = refl;
      damaged = refl;
      too_long = refl;
    }

-- a store of two columns, modulo 3: three bytes of row 0 and two of row 1. Its state after some rows, and what that says after the last
abbrev pub state : List ℕ → ℕ → State
state store = state_after 3 2 (row_of 2 store)

abbrev pub damaged : List ℕ → Bool
damaged store = is_damaged 3 (state store 2)

pub record Read : Type 0 where
  -- a pivot, and a column without one: the columns 0 and 1 are left behind in turn, and the right-hand side stays
  pub begun : state (1 ∷ 2 ∷ 1 ∷ 0 ∷ 0 ∷ []) 0 ≡ state_of true (0 ∷ 0 ∷ 0 ∷ [])
  pub one-row : state (1 ∷ 2 ∷ 1 ∷ 0 ∷ 0 ∷ []) 1 ≡ state_of true (2 ∷ 1 ∷ [])
  pub two-rows : state (1 ∷ 2 ∷ 1 ∷ 0 ∷ 0 ∷ []) 2 ≡ state_of true (1 ∷ [])
  pub free-column : damaged (1 ∷ 2 ∷ 1 ∷ 0 ∷ 0 ∷ []) ≡ false
  pub two-pivots : damaged (1 ∷ 0 ∷ 2 ∷ 1 ∷ 2 ∷ []) ≡ false
  pub empty : damaged (0 ∷ 0 ∷ 0 ∷ 0 ∷ 0 ∷ []) ≡ false
  -- a fault that is told by its own row, in row 0 alone and in the last row alone
  pub first-diagonal : damaged (2 ∷ 0 ∷ 0 ∷ 1 ∷ 0 ∷ []) ≡ true
  pub last-diagonal : damaged (1 ∷ 0 ∷ 0 ∷ 2 ∷ 0 ∷ []) ≡ true
  pub first-not-zero : damaged (0 ∷ 0 ∷ 1 ∷ 0 ∷ 0 ∷ []) ≡ true
  pub last-not-zero : damaged (0 ∷ 0 ∷ 0 ∷ 0 ∷ 1 ∷ []) ≡ true
  -- one that is told by the row of its column: above a pivot, and p itself in a column without one
  pub above-a-pivot : damaged (1 ∷ 1 ∷ 0 ∷ 1 ∷ 0 ∷ []) ≡ true
  pub no-residue : damaged (1 ∷ 3 ∷ 0 ∷ 0 ∷ 0 ∷ []) ≡ true
  -- one that only the state tells after the last row: each row is sound, and p is on the right
  pub right-hand-state : state (1 ∷ 0 ∷ 3 ∷ 1 ∷ 0 ∷ []) 2 ≡ state_of true (3 ∷ [])
  pub right-hand-side : damaged (1 ∷ 0 ∷ 3 ∷ 1 ∷ 0 ∷ []) ≡ true
  -- a row that is not zero and has nothing on its diagonal counts in no column
  pub not-counted : state (0 ∷ 2 ∷ 1 ∷ 0 ∷ 0 ∷ []) 1 ≡ state_of false (0 ∷ 0 ∷ [])
  -- whole rows, of the layout before: the same states, and something left of a diagonal, alone and beside a pivot
  pub whole-one-row : full_after 3 2 (1 ∷ 2 ∷ 1 ∷ 0 ∷ 0 ∷ 0 ∷ []) 1 ≡ state_of true (2 ∷ 1 ∷ [])
  pub whole-two-rows : full_after 3 2 (1 ∷ 2 ∷ 1 ∷ 0 ∷ 0 ∷ 0 ∷ []) 2 ≡ state_of true (1 ∷ [])
  pub left_alone : full_after 3 2 (1 ∷ 0 ∷ 2 ∷ 1 ∷ 0 ∷ 0 ∷ []) 2 ≡ state_of false (2 ∷ [])
  pub left-of-a-pivot : full_after 3 2 (1 ∷ 0 ∷ 2 ∷ 1 ∷ 1 ∷ 0 ∷ []) 2 ≡ state_of false (2 ∷ [])

pub read : Read
unfolding state_after full_after row_sound counted is_damaged row_start sum every tab
read =
    record {
      begun = refl;
      one-row = refl;
      two-rows = refl;
      free-column = refl;
      two-pivots = refl;
      empty = refl;
      first-diagonal = refl;
      last-diagonal = refl;
      first-not-zero = refl;
      last-not-zero = refl;
      above-a-pivot = refl;
      no-residue = refl;
      right-hand-state = refl;
      right-hand-side = refl;
      not-counted = refl;
      whole-one-row = refl;
      whole-two-rows = refl;
      left_alone = refl;
      left-of-a-pivot = refl;
    }

-- the causes of the moves under the plan L, of two columns: six bytes in the layout before, five in the new one
abbrev pub to_half : List ℕ → List ℕ → ℕ
to_half full half = first (to_half_causes L full half)

abbrev pub to_full : List ℕ → List ℕ → ℕ
to_full half full = first (to_full_causes L half full)

pub record Moved : Type 0 where
  -- "C(C+1)/2 + C bytes", "C up to 360 (65,340 bytes)"; before, 255 was the last within 64 KiB
  pub one-column : store_size 1 ≡ full_size 1
  pub most-columns : store_size 360 ≡ 65340
  pub most-before : full_size 255 ≡ 65280
  -- "keeps of row q only columns q to C−1 and the right-hand side": each byte by its row and column
  pub three-halved : halved 3 (11 ∷ 12 ∷ 13 ∷ 14 ∷ 0 ∷ 22 ∷ 23 ∷ 24 ∷ 0 ∷ 0 ∷ 33 ∷ 34 ∷ []) ≡ 11 ∷ 12 ∷ 13 ∷ 14 ∷ 22 ∷ 23 ∷ 24 ∷ 33 ∷ 34 ∷ []
  pub three-widened : widened 3 (11 ∷ 12 ∷ 13 ∷ 14 ∷ 22 ∷ 23 ∷ 24 ∷ 33 ∷ 34 ∷ []) ≡ 11 ∷ 12 ∷ 13 ∷ 14 ∷ 0 ∷ 22 ∷ 23 ∷ 24 ∷ 0 ∷ 0 ∷ 33 ∷ 34 ∷ []
  -- what lies left of a diagonal is not kept, so that an old store which has something there is refused
  pub left-lost : halved 2 (1 ∷ 0 ∷ 0 ∷ 1 ∷ 1 ∷ 0 ∷ []) ≡ 1 ∷ 0 ∷ 0 ∷ 1 ∷ 0 ∷ []
  pub left-refused : to_half (1 ∷ 0 ∷ 0 ∷ 1 ∷ 1 ∷ 0 ∷ []) (9 ∷ 9 ∷ 9 ∷ 9 ∷ 9 ∷ []) ≡ 6
  -- "its target's old bytes are untested"
  pub halves : to_half (1 ∷ 2 ∷ 1 ∷ 0 ∷ 0 ∷ 0 ∷ []) (9 ∷ 9 ∷ 9 ∷ 9 ∷ 9 ∷ []) ≡ 0
  pub widens : to_full (1 ∷ 2 ∷ 1 ∷ 0 ∷ 0 ∷ []) (9 ∷ 9 ∷ 9 ∷ 9 ∷ 9 ∷ 9 ∷ []) ≡ 0
  -- "either move refuses others with 6": a byte of p, 2 on the diagonal, something above a pivot, a right-hand side in a zero row
  pub half-residue : to_full (1 ∷ 3 ∷ 0 ∷ 0 ∷ 0 ∷ []) (0 ∷ 0 ∷ 0 ∷ 0 ∷ 0 ∷ 0 ∷ []) ≡ 6
  pub half-diagonal : to_full (2 ∷ 0 ∷ 0 ∷ 1 ∷ 0 ∷ []) (0 ∷ 0 ∷ 0 ∷ 0 ∷ 0 ∷ 0 ∷ []) ≡ 6
  pub half-above : to_full (1 ∷ 1 ∷ 0 ∷ 1 ∷ 0 ∷ []) (0 ∷ 0 ∷ 0 ∷ 0 ∷ 0 ∷ 0 ∷ []) ≡ 6
  pub half-right : to_full (1 ∷ 0 ∷ 0 ∷ 0 ∷ 1 ∷ []) (0 ∷ 0 ∷ 0 ∷ 0 ∷ 0 ∷ 0 ∷ []) ≡ 6
  pub full-residue : to_half (1 ∷ 3 ∷ 0 ∷ 0 ∷ 0 ∷ 0 ∷ []) (0 ∷ 0 ∷ 0 ∷ 0 ∷ 0 ∷ []) ≡ 6
  pub full-diagonal : to_half (2 ∷ 0 ∷ 0 ∷ 0 ∷ 1 ∷ 0 ∷ []) (0 ∷ 0 ∷ 0 ∷ 0 ∷ 0 ∷ []) ≡ 6
  pub full-above : to_half (1 ∷ 1 ∷ 0 ∷ 0 ∷ 1 ∷ 0 ∷ []) (0 ∷ 0 ∷ 0 ∷ 0 ∷ 0 ∷ []) ≡ 6
  pub full-right : to_half (1 ∷ 0 ∷ 0 ∷ 0 ∷ 0 ∷ 1 ∷ []) (0 ∷ 0 ∷ 0 ∷ 0 ∷ 0 ∷ []) ≡ 6
  -- 4 for either length, before 6
  pub source-long : to_half (2 ∷ 0 ∷ 0 ∷ 0 ∷ 0 ∷ 0 ∷ 0 ∷ []) (0 ∷ 0 ∷ 0 ∷ 0 ∷ 0 ∷ []) ≡ 4
  pub target-short : to_half (2 ∷ 0 ∷ 0 ∷ 0 ∷ 0 ∷ 0 ∷ []) (0 ∷ 0 ∷ 0 ∷ 0 ∷ []) ≡ 4
  pub source-old : to_full (1 ∷ 2 ∷ 1 ∷ 0 ∷ 0 ∷ 0 ∷ []) (0 ∷ 0 ∷ 0 ∷ 0 ∷ 0 ∷ 0 ∷ []) ≡ 4
  pub target-new : to_full (1 ∷ 2 ∷ 1 ∷ 0 ∷ 0 ∷ []) (0 ∷ 0 ∷ 0 ∷ 0 ∷ 0 ∷ []) ≡ 4
  -- an old store lent to filing is 4 by its length
  pub old-lent : answer (call L (1 ∷ 2 ∷ 1 ∷ 0 ∷ 0 ∷ 0 ∷ []) 0 0) ≡ answer_of (Err Length)
  -- the same filing over both layouts
  pub filed-new : answer (call L (1 ∷ 2 ∷ 1 ∷ 0 ∷ 0 ∷ []) 0 1) ≡ answer_of (Ok (New 1))
  pub filed-old : full_file_answer L (1 ∷ 2 ∷ 1 ∷ 0 ∷ 0 ∷ 0 ∷ []) 0 1 ≡ answer_of (Ok (New 1))
  pub left-new : store_after (call L (1 ∷ 2 ∷ 1 ∷ 0 ∷ 0 ∷ []) 0 1) ≡ 1 ∷ 0 ∷ 2 ∷ 1 ∷ 1 ∷ []
  pub left-old : full_file_store L (1 ∷ 2 ∷ 1 ∷ 0 ∷ 0 ∷ 0 ∷ []) 0 1 ≡ 1 ∷ 0 ∷ 2 ∷ 0 ∷ 1 ∷ 1 ∷ []

pub moved : Moved
unfolding store_after answer refusal filed call_causes store_size full_size row_start cells full_flat product bad_radix radices_fit out_of_range odd_prime is_prime every lengths_fit values_fit is_zero_row is_pivot is_reduced residual lead normal inserted outcome after flat joined tab sum row row_place weighted values chain link digit inverse
moved =
    record {
      one-column = refl;
      most-columns = refl;
      most-before = refl;
      three-halved = refl;
      three-widened = refl;
      left-lost = refl;
      left-refused = refl;
      halves = refl;
      widens = refl;
      half-residue = refl;
      half-diagonal = refl;
      half-above = refl;
      half-right = refl;
      full-residue = refl;
      full-diagonal = refl;
      full-above = refl;
      full-right = refl;
      source-long = refl;
      target-short = refl;
      source-old = refl;
      target-new = refl;
      old-lent = refl;
      filed-new = refl;
      filed-old = refl;
      left-new = refl;
      left-old = refl;
    }
