-- The digits of a word, one by one, and the number that they write.
--     is_digit-true, digit-range                   a byte against the digits
--     digits-all, digits-next                      the digits of a word, and those from a place on
--     number_step, number-end                      the number that the digits from a place on write after some that write v
--     small-step, small                            a number of few digits is small
--     empty-word                                   a word that is no numeral
--     one-digit, first-digit, numeral-parts        a word that is one
-- Assumes nothing.
use mathlib.Core.Path.{◌≡◌, refl, sym, ◌∙◌}
use mathlib.Core.Bool.{Bool, true, false, not, ◌&&◌, ◌||◌}
use mathlib.Core.List.{List}
use Prim.Native.Nat.{ℕ, ◌+◌, ◌-◌, ◌*◌, ◌^◌, ◌≤◌, ◌<◌}
use native.Mathlib.Nat.{pow-suc, pow-le-pow_right, lt_of_lt_of_le}
use native.Mathlib.Numerals.{add-one}
use native.Mathlib.Omega.{arith}
use lib.Dec.{eqb, leb}
use lib.ListN.{length, drop, drop_of_length-le}
use lib.Seq.{drop-cons}
use borrow.Author.Tests.{le-leb, lt-leb, leb-true, eq-eqb, ne_eqb}
use Rattle.std.specs.Char.{is_ascii_digit}
use Rattle.std.specs.List.{list_all}
use Rattle.std.proofs.lemmas.List.Recursion.{same_from_clauses}
use Rattle.lists.specs.Places.{at}
use Rattle.lists.proofs.Tests.{both_true}
use Rattle.lines.specs.Lines.{is_digit, all_digits, number_from, is_numeral}

pub is_digit-true : (x : ℕ) → 48 ≤ x → x ≤ 57 → is_digit x ≡ true
is_digit-true x low high = rw (le-leb 48 x low, le-leb x 57 high)

pub digit-range : (x : ℕ) → is_digit x ≡ true → (48 ≤ x) × (x ≤ 57)
digit-range x h = let r = both_true (leb 48 x) (leb x 57) h in (leb-true 48 x r.0, leb-true x 57 r.1)

-- `all_digits` is std's test of every byte
pub digits-all : (word : List ℕ) → list_all is_ascii_digit word ≡ all_digits word
unfolding all_digits
digits-all = same_from_clauses (list_all is_ascii_digit) all_digits (λ (x : ℕ) (b : Bool). is_digit x && b) refl (λ _ _. refl) (λ _ _. refl)

digits-cons : (word : List ℕ) (i : ℕ) → i < length word → all_digits (drop i word) ≡ (is_digit (at word i) && all_digits (drop (i + 1) word))
unfolding all_digits
digits-cons word i h = rw (add-one, drop-cons word i 0 h)

pub digits-next : (word : List ℕ) (i : ℕ) → i < length word → all_digits (drop i word) ≡ true → ((48 ≤ at word i) × (at word i ≤ 57)) × (all_digits (drop (i + 1) word) ≡ true)
digits-next word i h e =
    let r = both_true (is_digit (at word i)) (all_digits (drop (i + 1) word)) (sym (digits-cons word i h) ∙ e) in
    (digit-range (at word i) r.0, r.1)

pub number-end : (v : ℕ) (word : List ℕ) (i : ℕ) → length word ≤ i → number_from v (drop i word) ≡ v
unfolding number_from
number-end v word i h = rw (drop_of_length-le word h)

pub number_step : (v : ℕ) (word : List ℕ) (i : ℕ) → i < length word → number_from v (drop i word) ≡ number_from (10 * v + (at word i - 48)) (drop (i + 1) word)
unfolding number_from
number_step v word i h = rw (add-one, drop-cons word i 0 h)

-- i digits write a number below 10^i
pub small-step : (v d i : ℕ) → v < 10 ^ i → d ≤ 9 → 10 * v + d < 10 ^ (i + 1)
small-step v d i h l = rw (add-one, pow-suc) (omega arith)

pub small : (v i : ℕ) → v < 10 ^ i → i ≤ 9 → v < 1000000000
small v i h l = lt_of_lt_of_le h (pow-le-pow_right (omega arith) l)

-- a word against what the code tests of it
module _ (most : ℕ) (word : List ℕ) where
  pub empty-word : length word < 1 → is_numeral most word ≡ false
  unfolding is_numeral
  empty-word h = rw (lt-leb 1 (length word) h)

  pub numeral-parts : is_numeral most word ≡ true → (length word ≤ most) × (all_digits word ≡ true)
  unfolding is_numeral
  numeral-parts h =
      let a = both_true (leb 1 (length word) && leb (length word) most) (all_digits word && (eqb (length word) 1 || not (eqb (at word 0) 48))) h in
      let b = both_true (leb 1 (length word)) (leb (length word) most) a.0 in
      (leb-true (length word) most b.1, (both_true (all_digits word) (eqb (length word) 1 || not (eqb (at word 0) 48)) a.1).0)

  module _ (low : 1 ≤ length word) (high : length word ≤ most) (digits : all_digits word ≡ true) where
    pub one-digit : length word ≡ 1 → is_numeral most word ≡ true
    unfolding is_numeral
    one-digit e = rw (le-leb 1 (length word) low, le-leb (length word) most high, digits, eq-eqb (length word) 1 e)

    pub first-digit : (at word 0 ≡ 48 → ⊥) → is_numeral most word ≡ true
    unfolding is_numeral
    first-digit h = rw (le-leb 1 (length word) low, le-leb (length word) most high, digits, ne_eqb (at word 0) 48 h) (either (eqb (length word) 1))
      where
        either : (b : Bool) → (b || true) ≡ true
        either true = refl
        either false = refl
