-- Listings and lists of steps read back (02, C-15): XOR's, one of the smallest plan, and one for each way to be turned away. Each fact computes.
-- Assumes nothing.
use mathlib.Core.Path.{◌≡◌, refl}
use mathlib.Core.List.{List, [], ◌∷◌}
use Prim.Native.Nat.{ℕ, ◌/◌, ◌%◌}
use Rattle.lists.specs.Places.{sum, tab, every, joined, largest, same}
use Rattle.field.specs.Primes.{is_prime, odd_prime}
use Rattle.std.specs.Prelude.{Ok}
use Rattle.plan.specs.declared.numbers.Plan.{Plan}
use Rattle.plan.specs.declared.refusal.Refusal.TheVariants.{Length, Line, Foreign}
use Rattle.plan.specs.Causes.{first}
use Rattle.plan.specs.Numbers.{product, bad_radix, radices_fit, out_of_range}
use Rattle.plan.specs.Parts.{Given, lend, lengths_fit, values_fit, call_causes}
use Rattle.program.specs.Layout.{adds, link_steps, product_steps, layout, step_count}
use Rattle.listing.specs.Norm.{short, squares, worst}
use Rattle.listing.specs.Decimal.{digits_of, decimal, spaced, line}
use Rattle.listing.specs.Printed.{listing}
use Rattle.lines.specs.Lines.{cut_at, all_digits, is_numeral, number_from, all_numerals, asks, numbers}
use Rattle.lines.proofs.Quotes.{bytes}
use Rattle.readback.specs.Recovery.{coefficient_step, recovered, is_written, steps_causes}
use Rattle.readback.specs.Listings.{line_fits, bad_line, step_numbers, malformed, steps_in, is_listing, refused, refused_at, answer_of, text_answer, listing_answer, listing_left}

-- 01's XOR: two digits, a product
abbrev xor_plan : Plan
xor_plan = record { p = 3; s = 2; n = 2; m = 0; t = 1 }

abbrev xor : List ℕ
xor = bytes "bootstraps steps worst\n2 19 2\nkind to from by\n0 6 0 0\n0 2 0 0\n1 2 0 0\n1 2 1 1\n0 3 0 0\n1 3 0 1\n1 3 1 1\n0 4 0 0\n1 4 2 1\n1 4 3 1\n0 5 0 0\n1 5 2 1\n1 5 3 2\n2 4 4 0\n2 5 5 1\n1 6 4 1\n1 6 5 1\n1 6 0 1\n1 6 1 0\n"

-- the smallest plan: one digit alone
abbrev one_plan : Plan
one_plan = record { p = 3; s = 2; n = 1; m = 0; t = 0 }

abbrev one_given : Given
one_given = lend one_plan (2 ∷ []) [] [] []

pub record Readings : Type 0 where
  -- XOR's listing gives 0 1 1 0
  pub xor-whole : text_answer xor_plan [] (1 ∷ 1 ∷ []) xor ≡ answer_of (Ok tt)
  pub xor-found : recovered xor_plan (steps_in xor) ≡ 0 ∷ 1 ∷ 1 ∷ 0 ∷ []
  -- where the coefficients stand: in steps 2 and 3, behind the clearing of y and of u, and in steps 17 and 18
  pub xor-places : tab 4 (λ c. coefficient_step xor_plan (c / 2) (c % 2)) ≡ 2 ∷ 3 ∷ 17 ∷ 18 ∷ []
  -- another plan with the same numbers, d = 1 2: its program has another second sum
  pub other-plan : text_answer xor_plan [] (1 ∷ 2 ∷ []) xor ≡ answer_of (refused_at Foreign 1)
  -- one digit, no link and no product: y cleared, and the digit added by 2, which counts as -1
  pub one-whole : text_answer one_plan [] [] (bytes "bootstraps steps worst\n0 2 1\nkind to from by\n0 5 0 0\n1 5 0 2\n") ≡ answer_of (Ok tt)
  pub one_found : recovered one_plan (steps_in (bytes "bootstraps steps worst\n0 2 1\nkind to from by\n0 5 0 0\n1 5 0 2\n")) ≡ 2 ∷ []
  -- each figure wrong by one
  pub first-figure : text_answer one_plan [] [] (bytes "bootstraps steps worst\n1 2 1\nkind to from by\n0 5 0 0\n1 5 0 2\n") ≡ answer_of (refused_at Foreign 1)
  pub second-figure : text_answer one_plan [] [] (bytes "bootstraps steps worst\n0 3 1\nkind to from by\n0 5 0 0\n1 5 0 2\n") ≡ answer_of (refused_at Foreign 1)
  pub third-figure : text_answer one_plan [] [] (bytes "bootstraps steps worst\n0 2 2\nkind to from by\n0 5 0 0\n1 5 0 2\n") ≡ answer_of (refused_at Foreign 1)
  -- a step line more, and one fewer
  pub step-more : text_answer one_plan [] [] (bytes "bootstraps steps worst\n0 2 1\nkind to from by\n0 5 0 0\n1 5 0 2\n1 5 0 2\n") ≡ answer_of (refused_at Foreign 1)
  pub step_fewer : text_answer one_plan [] [] (bytes "bootstraps steps worst\n0 2 1\nkind to from by\n0 5 0 0\n") ≡ answer_of (refused_at Foreign 1)
  -- no step line: 13 passes, 15 does not
  pub no_steps : text_answer one_plan [] [] (bytes "bootstraps steps worst\n0 2 1\nkind to from by\n") ≡ answer_of (refused_at Foreign 1)
  -- a coefficient that is no residue, and one of 65,538, whose last 16 bits are 2
  pub no-residue : text_answer one_plan [] [] (bytes "bootstraps steps worst\n0 2 1\nkind to from by\n0 5 0 0\n1 5 0 3\n") ≡ answer_of (refused_at Foreign 1)
  pub wide-number : text_answer one_plan [] [] (bytes "bootstraps steps worst\n0 2 1\nkind to from by\n0 5 0 0\n1 5 0 65538\n") ≡ answer_of (refused_at Foreign 1)
  -- 13 comes with its line, and before 15: the empty text, one line, two lines
  pub empty-text : text_answer one_plan [] [] [] ≡ answer_of (refused_at Line 1)
  pub one_line : text_answer one_plan [] [] (bytes "bootstraps steps worst\n") ≡ answer_of (refused_at Line 2)
  pub two-lines : text_answer one_plan [] [] (bytes "bootstraps steps worst\n0 2 1\n") ≡ answer_of (refused_at Line 3)
  -- names of another line, a CR before the LF
  pub other-names : text_answer one_plan [] [] (bytes "kind to from by\n0 2 1\n") ≡ answer_of (refused_at Line 1)
  pub cr-lf : text_answer one_plan [] [] (bytes "bootstraps steps worst\r\n0 2 1\n") ≡ answer_of (refused_at Line 1)
  -- a figure of 7 digits is a number, one of 8 is none
  pub seven-digits : text_answer one_plan [] [] (bytes "bootstraps steps worst\n0 2 1000000\nkind to from by\n0 5 0 0\n1 5 0 2\n") ≡ answer_of (refused_at Foreign 1)
  pub eight-digits : text_answer one_plan [] [] (bytes "bootstraps steps worst\n0 2 10000000\nkind to from by\n0 5 0 0\n1 5 0 2\n") ≡ answer_of (refused_at Line 2)
  -- a step's number has at most 5
  pub six-digits : text_answer one_plan [] [] (bytes "bootstraps steps worst\n0 2 1\nkind to from by\n0 5 0 0\n1 5 0 100000\n") ≡ answer_of (refused_at Line 5)
  -- a leading zero, three numbers, two spaces, an empty line
  pub leading-zero : text_answer one_plan [] [] (bytes "bootstraps steps worst\n0 2 1\nkind to from by\n0 5 0 0\n1 5 0 02\n") ≡ answer_of (refused_at Line 5)
  pub three-numbers : text_answer one_plan [] [] (bytes "bootstraps steps worst\n0 2 1\nkind to from by\n0 5 0\n1 5 0 2\n") ≡ answer_of (refused_at Line 4)
  pub two-spaces : text_answer one_plan [] [] (bytes "bootstraps steps worst\n0 2 1\nkind to from by\n0 5  0\n1 5 0 2\n") ≡ answer_of (refused_at Line 4)
  pub empty-line : text_answer one_plan [] [] (bytes "bootstraps steps worst\n0 2 1\nkind to from by\n0 5 0 0\n1 5 0 2\n\n") ≡ answer_of (refused_at Line 6)
  -- the last line without its LF
  pub no-lf : text_answer one_plan [] [] (bytes "bootstraps steps worst\n0 2 1\nkind to from by\n0 5 0 0\n1 5 0 2") ≡ answer_of (refused_at Line 5)
  -- of two malformed lines the first counts, and a malformed one before a wrong figure
  pub two-malformed : text_answer one_plan [] [] (bytes "bootstraps steps worst\n0 2 1 4\nkind to from\n") ≡ answer_of (refused_at Line 2)
  pub malformed-first : text_answer one_plan [] [] (bytes "bootstraps steps worst\n5 5 5\nkind to from by\n0 5 0 0\n1 5 0\n") ≡ answer_of (refused_at Line 5)
  -- from steps: the list of one digit's program gives 2, and other lists give 15
  pub steps-whole : first (steps_causes one_given (0 ∷ 5 ∷ 0 ∷ 0 ∷ 1 ∷ 5 ∷ 0 ∷ 2 ∷ []) (9 ∷ [])) ≡ 0
  pub steps-none : first (steps_causes one_given ([]) (9 ∷ [])) ≡ 15
  pub steps-longer : first (steps_causes one_given (0 ∷ 5 ∷ 0 ∷ 0 ∷ 1 ∷ 5 ∷ 0 ∷ 2 ∷ 0 ∷ []) (9 ∷ [])) ≡ 15
  pub steps-other-sum : first (steps_causes one_given (0 ∷ 5 ∷ 0 ∷ 0 ∷ 1 ∷ 5 ∷ 1 ∷ 2 ∷ []) (9 ∷ [])) ≡ 15
  -- kind 3, which is cause 11 for a run, is 15 here
  pub steps-malformed : first (steps_causes one_given (3 ∷ 5 ∷ 0 ∷ 0 ∷ 1 ∷ 5 ∷ 0 ∷ 2 ∷ []) (9 ∷ [])) ≡ 15
  -- β of another length is 4, before 13 and 15, and has no line
  pub short-β : listing_answer one_given [] [] ≡ answer_of (refused Length)
  pub steps-short-β : first (steps_causes one_given [] []) ≡ 4
  -- what is left in β: the coefficient, or what was there
  pub left-read : listing_left one_given (bytes "bootstraps steps worst\n0 2 1\nkind to from by\n0 5 0 0\n1 5 0 2\n") (9 ∷ []) ≡ 2 ∷ []
  pub left-refused : listing_left one_given [] (9 ∷ []) ≡ 9 ∷ []

pub readings : Readings
unfolding sum tab every joined largest same is_prime odd_prime product bad_radix radices_fit out_of_range lengths_fit values_fit call_causes adds link_steps product_steps layout step_count short squares worst digits_of decimal spaced line listing cut_at all_digits is_numeral number_from all_numerals asks numbers coefficient_step recovered is_written line_fits bad_line step_numbers malformed steps_in is_listing
readings =
    record {
      xor-whole = refl;
      xor-found = refl;
      xor-places = refl;
      other-plan = refl;
      one-whole = refl;
      one_found = refl;
      first-figure = refl;
      second-figure = refl;
      third-figure = refl;
      step-more = refl;
      step_fewer = refl;
      no_steps = refl;
      no-residue = refl;
      wide-number = refl;
      empty-text = refl;
      one_line = refl;
      two-lines = refl;
      other-names = refl;
      cr-lf = refl;
      seven-digits = refl;
      eight-digits = refl;
      six-digits = refl;
      leading-zero = refl;
      three-numbers = refl;
      two-spaces = refl;
      empty-line = refl;
      no-lf = refl;
      two-malformed = refl;
      malformed-first = refl;
      steps-whole = refl;
      steps-none = refl;
      steps-longer = refl;
      steps-other-sum = refl;
      steps-malformed = refl;
      short-β = refl;
      steps-short-β = refl;
      left-read = refl;
      left-refused = refl;
    }
