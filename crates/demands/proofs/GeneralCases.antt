-- 02, C-17: facts about the definitions of `general` and `laws`, each of which computes. X and L are those of `Cases`; E has one digit x, a link
-- that is 1 0 0 1 2 for x from 0 to 4, and products by the weights given.
--     suits           what the test answers and leaves
--     shapes          how many filings can be New: at the limits of a plan, and in the shapes of 003's Table 1, the first output of each row that is
--                     within the limits here
-- Assumes nothing.
use mathlib.Core.Path.{◌≡◌, refl}
use mathlib.Core.Bool.{true, false}
use mathlib.Core.List.{List, [], ◌∷◌}
use Prim.Native.Nat.{ℕ}
use lib.ListN.{replicate}
use Rattle.std.specs.Prelude.{Ok, Err}
use Rattle.lists.specs.Places.{sum, tab, every, joined}
use Rattle.field.specs.Primes.{is_prime, odd_prime}
use Rattle.field.specs.Residues.{inverse}
use Rattle.plan.specs.Numbers.{plan, product, bad_radix, radices_fit, out_of_range}
use Rattle.plan.specs.Parts.{Given, given, lengths_fit, values_fit, store_size, call_causes}
use Rattle.plan.specs.Rows.{digit, link, chain, values, weighted, row_place, row}
use Rattle.plan.specs.declared.refusal.Refusal.TheVariants.{Prime, Radix, Range, Length, Residue}
use Rattle.store.specs.Elimination.{residual, lead, normal, inserted, outcome, after, row_start, cells, flat}
use Rattle.store.specs.Calls.{filed}
use Rattle.laws.specs.Rank.{rows_most, most_new}
use Rattle.general.specs.Suits.{work_after, is_general, answer_of, general_answer, general_work}
use Rattle.demands.proofs.Cases.{X, L}

-- one digit of this radix, t products by these weights
abbrev pub E : ℕ → ℕ → List ℕ → Given
E r t d = given 5 2 1 1 t (r ∷ []) (1 ∷ []) (1 ∷ 0 ∷ 0 ∷ 1 ∷ 2 ∷ []) d

-- a work store of so many bytes
abbrev nines : ℕ → List ℕ
nines k = replicate k 9

pub record Suits : Type 0 where
  -- entry 0 of X is Implied; the work store's bytes do not matter, and it is left empty
  pub xor : general_answer X (replicate 14 0) ≡ answer_of (Ok false)
  pub xor-nines : general_answer X (nines 14) ≡ answer_of (Ok false)
  pub xor-left : general_work X (nines 14) ≡ replicate 14 0
  -- rows 0 1 and 1 0; with a third entry 2 0
  pub link-two : general_answer L (nines 5) ≡ answer_of (Ok true)
  pub link_left : general_work L (nines 5) ≡ replicate 5 0
  pub link-three : general_answer (given 3 2 1 1 0 (3 ∷ []) (1 ∷ []) (1 ∷ 0 ∷ 0 ∷ []) []) (nines 5) ≡ answer_of (Ok false)
  -- as many entries as columns, and one more
  pub four : general_answer (E 4 1 (1 ∷ 0 ∷ [])) (nines 14) ≡ answer_of (Ok true)
  pub five : general_answer (E 5 1 (1 ∷ 0 ∷ [])) (nines 14) ≡ answer_of (Ok false)
  -- 6 columns of which 5 can be independent, by d rows 1 0 and 0 1; by 1 0 twice 4 are, so that the last entry alone is not New
  pub apart : general_answer (E 5 2 (1 ∷ 0 ∷ 0 ∷ 1 ∷ [])) (nines 27) ≡ answer_of (Ok true)
  pub alike : general_answer (E 5 2 (1 ∷ 0 ∷ 1 ∷ 0 ∷ [])) (nines 27) ≡ answer_of (Ok false)
  pub alike-four : general_answer (E 4 2 (1 ∷ 0 ∷ 1 ∷ 0 ∷ [])) (nines 27) ≡ answer_of (Ok true)
  -- causes 1 to 5 in their order; a refusal leaves the work store
  pub no-prime : general_answer (given 9 1 2 0 33 (2 ∷ 2 ∷ []) [] [] (9 ∷ [])) (nines 3) ≡ answer_of (Err Prime)
  pub no-radix : general_answer (given 3 1 2 0 33 (2 ∷ 2 ∷ []) [] [] (9 ∷ [])) (nines 3) ≡ answer_of (Err Radix)
  pub no-range : general_answer (given 3 2 2 0 33 (2 ∷ 2 ∷ []) [] [] (9 ∷ [])) (nines 3) ≡ answer_of (Err Range)
  pub work-short : general_answer (given 3 2 2 0 1 (2 ∷ 2 ∷ []) [] [] (9 ∷ 9 ∷ [])) (nines 13) ≡ answer_of (Err Length)
  pub work-full : general_answer X (nines 20) ≡ answer_of (Err Length)
  pub work-full-left : general_work X (nines 20) ≡ nines 20
  pub no-residue : general_answer (given 3 2 2 0 1 (2 ∷ 2 ∷ []) [] [] (1 ∷ 3 ∷ [])) (nines 14) ≡ answer_of (Err Residue)
  pub no-residue-left : general_work (given 3 2 2 0 1 (2 ∷ 2 ∷ []) [] [] (1 ∷ 3 ∷ [])) (nines 14) ≡ nines 14

pub suits : Suits
unfolding work_after is_general filed call_causes store_size row_start cells product bad_radix radices_fit out_of_range odd_prime is_prime every lengths_fit values_fit residual lead normal inserted outcome after flat joined tab sum row row_place weighted values chain link digit inverse
suits =
    record {
      xor = refl;
      xor-nines = refl;
      xor-left = refl;
      link-two = refl;
      link_left = refl;
      link-three = refl;
      four = refl;
      five = refl;
      apart = refl;
      alike = refl;
      alike-four = refl;
      no-prime = refl;
      no-radix = refl;
      no-range = refl;
      work-short = refl;
      work-full = refl;
      work-full-left = refl;
      no-residue = refl;
      no-residue-left = refl;
    }

pub record Shapes : Type 0 where
  -- L = 64: as many as columns with no product and with one, then fewer
  pub most-0 : most_new (plan 3 2 12 52 0) ≡ 64
  pub most-1 : most_new (plan 3 2 12 52 1) ≡ 128
  pub most-2 : most_new (plan 3 2 12 52 2) ≡ 191
  pub most-15 : most_new (plan 3 2 12 52 15) ≡ 919
  -- more products than variables add nothing
  pub few-2 : most_new (plan 5 2 1 1 2) ≡ 5
  pub few-3 : most_new (plan 5 2 1 1 3) ≡ 5
  pub few-4 : most_new (plan 5 2 1 1 4) ≡ 5
  pub few-32 : most_new (plan 5 2 1 0 32) ≡ 2
  -- s = 2 and p = 3: 16 and 32 entries leave room; 64 of 64 columns, 128 of 130, 256 of 259 and 512 of 531 do not
  pub bits-4 : most_new (plan 3 2 4 2 2) ≡ 17
  pub bits-5 : most_new (plan 3 2 5 7 2) ≡ 35
  pub bits-6 : most_new (plan 3 2 6 10 3) ≡ 61
  pub bits-7 : most_new (plan 3 2 7 19 4) ≡ 124
  pub bits-8 : most_new (plan 3 2 8 29 6) ≡ 244
  pub bits-9 : most_new (plan 3 2 9 50 8) ≡ 503
  -- s = 4 and p = 5: 16 entries leave room; 64 of 64 columns and 256 of 261 do not
  pub quads-2 : most_new (plan 5 4 2 4 2) ≡ 17
  pub quads-3 : most_new (plan 5 4 3 13 3) ≡ 61
  pub quads-4 : most_new (plan 5 4 4 25 8) ≡ 233
  -- s = 16 and p = 17: 256 of 261 do not; L = 32 with t = 8, for which a plan of the AES S-box was found, leaves room
  pub nibbles-2 : most_new (plan 17 16 2 27 8) ≡ 233
  pub nibbles-more : most_new (plan 17 16 2 30 8) ≡ 260

pub shapes : Shapes
unfolding most_new rows_most
shapes =
    record {
      most-0 = refl;
      most-1 = refl;
      most-2 = refl;
      most-15 = refl;
      few-2 = refl;
      few-3 = refl;
      few-4 = refl;
      few-32 = refl;
      bits-4 = refl;
      bits-5 = refl;
      bits-6 = refl;
      bits-7 = refl;
      bits-8 = refl;
      bits-9 = refl;
      quads-2 = refl;
      quads-3 = refl;
      quads-4 = refl;
      nibbles-2 = refl;
      nibbles-more = refl;
    }
