-- The meaning of texts: 01's XOR example with its radices, byte for byte, AND under its plan, and a refusal of each kind. One collected table of
-- facts about the definition; each computes. A quoted text stands for its bytes, `\n` for the LF. Assumes nothing.
use mathlib.Core.Path.{◌≡◌, refl}
use mathlib.Core.List.{[]}
use Rattle.lists.specs.Places.{sum, tab, every, joined, largest, same}
use Rattle.field.specs.Primes.{is_prime, odd_prime}
use Rattle.field.specs.Residues.{inverse}
use Rattle.plan.specs.Numbers.{product, bad_radix, radices_fit, out_of_range}
use Rattle.plan.specs.Parts.{lengths_fit, values_fit, store_size, call_causes}
use Rattle.plan.specs.Rows.{digit, link, chain, values, weighted, row_place, row}
use Rattle.store.specs.Elimination.{is_zero_row, is_pivot, is_reduced, residual, lead, normal, inserted, outcome, after, row_start, cells, flat}
use Rattle.store.specs.Calls.{filed, coefficients}
use Rattle.program.specs.Layout.{adds, link_steps, product_steps, layout, step_count}
use Rattle.listing.specs.Norm.{short, squares, worst}
use Rattle.listing.specs.Decimal.{digits_of, decimal, spaced, line}
use Rattle.listing.specs.Printed.{listing, refused}
use Rattle.lines.specs.Lines.{cut_at, all_digits, is_numeral, number_from, all_numerals, asks, numbers}
use Rattle.lines.proofs.Quotes.{bytes}
use Rattle.text.specs.Meaning.{judged, ended, from, meaning}

pub record Meanings : Type 0 where
  -- "The XOR text gains the line `2 2` and prints the same"
  pub xor : meaning (bytes "p s n links products\n3 2 2 0 1\n2 2\n1 1\nentry value\n0 0\n1 1\n2 1\n3 0\n") ≡ bytes "bootstraps steps worst\n2 19 2\nkind to from by\n0 6 0 0\n0 2 0 0\n1 2 0 0\n1 2 1 1\n0 3 0 0\n1 3 0 1\n1 3 1 1\n0 4 0 0\n1 4 2 1\n1 4 3 1\n0 5 0 0\n1 5 2 1\n1 5 3 2\n2 4 4 0\n2 5 5 1\n1 6 4 1\n1 6 5 1\n1 6 0 1\n1 6 1 0\n"
  -- AND under the same plan: its coefficient 2 counts as -1 in the figures, and its step prints it as 2
  pub and : meaning (bytes "p s n links products\n3 2 2 0 1\n2 2\n1 1\nentry value\n0 0\n1 0\n2 0\n3 1\n") ≡ bytes "bootstraps steps worst\n2 19 2\nkind to from by\n0 6 0 0\n0 2 0 0\n1 2 0 1\n1 2 1 0\n0 3 0 0\n1 3 0 1\n1 3 1 1\n0 4 0 0\n1 4 2 1\n1 4 3 1\n0 5 0 0\n1 5 2 1\n1 5 3 2\n2 4 4 0\n2 5 5 1\n1 6 4 1\n1 6 5 1\n1 6 0 2\n1 6 1 0\n"
  -- an empty text: line 1 is missing
  pub empty-text : meaning [] ≡ bytes "refusal line\n13 1\n"
  -- the values line is missing
  pub values-missing : meaning (bytes "p s n links products\n") ≡ bytes "refusal line\n13 2\n"
  -- a CR before the LF
  pub cr-lf : meaning (bytes "p s n links products\r\n") ≡ bytes "refusal line\n13 1\n"
  -- five digits are read: 65,539 is no p
  pub five-digits : meaning (bytes "p s n links products\n65539 2 2 0 1\n") ≡ bytes "refusal line\n1 2\n"
  -- six digits
  pub six-digits : meaning (bytes "p s n links products\n100000 2 2 0 1\n") ≡ bytes "refusal line\n13 2\n"
  -- a leading zero
  pub leading-zero : meaning (bytes "p s n links products\n03 2 2 0 1\n") ≡ bytes "refusal line\n13 2\n"
  -- s above p
  pub bound-above : meaning (bytes "p s n links products\n3 4 2 0 1\n") ≡ bytes "refusal line\n2 2\n"
  -- C = 361
  pub columns-above : meaning (bytes "p s n links products\n3 2 1 18 18\n") ≡ bytes "refusal line\n14 2\n"
  -- C = 361 and a bad radix behind it: "In text the values line is tested whole before the radices line is read"
  pub columns-first : meaning (bytes "p s n links products\n3 2 1 18 18\n1\n") ≡ bytes "refusal line\n14 2\n"
  -- C = 360 passes the values line, and the radices line is missing
  pub columns-most : meaning (bytes "p s n links products\n3 2 1 17 19\n") ≡ bytes "refusal line\n13 3\n"
  -- so does C = 256, which an eight-bit table can need
  pub columns-eight-bits : meaning (bytes "p s n links products\n3 2 1 63 3\n") ≡ bytes "refusal line\n13 3\n"
  -- 64 digits pass the values line, and the radices line is missing
  pub radices-missing : meaning (bytes "p s n links products\n3 2 64 0 0\n") ≡ bytes "refusal line\n13 3\n"
  -- a radix too many, and a bad one: 13 comes first
  pub radix-more : meaning (bytes "p s n links products\n3 2 2 0 1\n2 2 1\n") ≡ bytes "refusal line\n13 3\n"
  -- a radix of 1
  pub radix-below : meaning (bytes "p s n links products\n3 2 2 0 1\n2 1\n") ≡ bytes "refusal line\n2 3\n"
  -- a last radix of p + 1, and a product above 4,096 before it: 2 comes before 3 over the whole line
  pub radix-above : meaning (bytes "p s n links products\n67 2 3 0 0\n67 67 68\n") ≡ bytes "refusal line\n2 3\n"
  -- a radix of p passes, and the line behind the radices is missing
  pub radix-largest : meaning (bytes "p s n links products\n3 2 2 0 0\n3 3\n") ≡ bytes "refusal line\n13 4\n"
  -- 65,538 is no radix of 2
  pub radix-wide : meaning (bytes "p s n links products\n3 2 2 0 1\n65538 2\n") ≡ bytes "refusal line\n2 3\n"
  -- 2^13 entries
  pub entries-above : meaning (bytes "p s n links products\n3 2 13 0 1\n2 2 2 2 2 2 2 2 2 2 2 2 2\n") ≡ bytes "refusal line\n3 3\n"
  -- 01's XOR text, without its radices: `1 1` is read as these
  pub radices-unwritten : meaning (bytes "p s n links products\n3 2 2 0 1\n1 1\nentry value\n0 0\n1 1\n2 1\n3 0\n") ≡ bytes "refusal line\n2 3\n"
  -- a weight of p
  pub weight-above : meaning (bytes "p s n links products\n3 2 2 0 1\n2 2\n1 3\n") ≡ bytes "refusal line\n5 4\n"
  -- a weight of p and a number too many: 13 comes first
  pub number_more : meaning (bytes "p s n links products\n3 2 2 0 1\n2 2\n1 3 1\n") ≡ bytes "refusal line\n13 4\n"
  -- an entry of 2 times 2 with a value of s: 7 comes before 8
  pub entry-above : meaning (bytes "p s n links products\n3 2 2 0 1\n2 2\n1 1\nentry value\n4 2\n") ≡ bytes "refusal line\n7 6\n"
  -- radices of 12 and 2: 24 entries, of which 23 is the last
  pub mixed-last : meaning (bytes "p s n links products\n13 2 2 0 0\n12 2\nentry value\n23 2\n") ≡ bytes "refusal line\n8 5\n"
  pub mixed-above : meaning (bytes "p s n links products\n13 2 2 0 0\n12 2\nentry value\n24 0\n") ≡ bytes "refusal line\n7 5\n"
  -- a value of s
  pub value-above : meaning (bytes "p s n links products\n3 2 2 0 1\n2 2\n1 1\nentry value\n3 2\n") ≡ bytes "refusal line\n8 6\n"
  -- entry 0 can only be 0
  pub contradiction-met : meaning (bytes "p s n links products\n3 2 2 0 1\n2 2\n1 1\nentry value\n0 1\n") ≡ bytes "refusal line\n9 6\n"
  -- the last line without its LF
  pub lf-missing : meaning (bytes "p s n links products\n3 2 2 0 1\n2 2\n1 1\nentry value\n0 0") ≡ bytes "refusal line\n13 6\n"
  -- a blank line
  pub blank-line : meaning (bytes "p s n links products\n3 2 2 0 1\n2 2\n1 1\nentry value\n\n") ≡ bytes "refusal line\n13 6\n"

pub meanings : Meanings
unfolding sum tab every joined is_prime odd_prime inverse product bad_radix radices_fit out_of_range lengths_fit values_fit store_size call_causes digit link chain values weighted row_place row is_zero_row is_pivot is_reduced residual lead normal inserted outcome after row_start cells flat filed coefficients adds link_steps product_steps layout step_count largest short squares worst digits_of decimal spaced line listing refused cut_at all_digits is_numeral number_from all_numerals asks numbers same judged ended from meaning
meanings =
    record {
      xor = refl;
      and = refl;
      empty-text = refl;
      values-missing = refl;
      cr-lf = refl;
      five-digits = refl;
      six-digits = refl;
      leading-zero = refl;
      bound-above = refl;
      columns-above = refl;
      columns-first = refl;
      columns-most = refl;
      columns-eight-bits = refl;
      radices-missing = refl;
      radix-more = refl;
      radix-below = refl;
      radix-above = refl;
      radix-largest = refl;
      radix-wide = refl;
      entries-above = refl;
      radices-unwritten = refl;
      weight-above = refl;
      number_more = refl;
      entry-above = refl;
      mixed-last = refl;
      mixed-above = refl;
      value-above = refl;
      contradiction-met = refl;
      lf-missing = refl;
      blank-line = refl;
    }
