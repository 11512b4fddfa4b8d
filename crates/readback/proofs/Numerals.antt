-- Numbers and the digits that write them: `decimal` of `listing` prints them, `is_numeral` and `number` of `lines` read them.
--     decimal-writes        the digits of a number of 64 bits are digits, write it, and have no leading zero
--     decimal-numeral       so they are a numeral
--     lacks-decimal         and have no byte below the digits, as space and LF are
--     numeral-decimal       a numeral is the digits of the number that it writes
-- Assumes nothing.
use mathlib.Core.Path.{◌≡◌, refl, sym, ap, ap₂, subst, ◌∙◌}
use mathlib.Core.Bool.{true, not, ◌&&◌, ◌||◌, true≢false}
use mathlib.Core.List.{List, [], ◌∷◌, ◌++◌, append_assoc, append-nil}
use Prim.Native.Nat.{ℕ, zero, suc, ◌+◌, ◌-◌, ◌*◌, ◌/◌, ◌%◌, ◌^◌, ◌≤◌, ◌<◌}
use native.Mathlib.Nat.{pow-suc, add-zero}
use native.Mathlib.Decide.{dec_lt}
use native.Mathlib.Omega.{arith}
use lib.Dec.{eqb, leb}
use lib.ListN.{length, length-append, get_or-append}
use borrow.Author.Tests.{leb-true, ne_eqb}
use Rattle.lists.specs.Places.{at}
use Rattle.lists.proofs.Tests.{both, both_true}
use Rattle.lines.specs.Lines.{is_digit, all_digits, is_numeral, number, number_from}
use Rattle.lines.proofs.DigitLaws.{is_digit-true, digit-range, small, one-digit, first-digit}
use Rattle.lines.proofs.Cuts.{lacks}
use Rattle.listing.specs.Decimal.{decimal}
use Rattle.listing.proofs.Digits.{decimal-one, decimal-next, decimal-short}

-- one digit more at the end
digits-snoc : (xs : List ℕ) (x : ℕ) → all_digits xs ≡ true → is_digit x ≡ true → all_digits (xs ++ (x ∷ [])) ≡ true
unfolding all_digits
digits-snoc [] x h k = both (is_digit x) true k refl
digits-snoc (y ∷ xs) x h k =
    let b = both_true (is_digit y) (all_digits xs) h in
    both (is_digit y) (all_digits (xs ++ (x ∷ []))) b.0 (digits-snoc xs x b.1 k)

number-snoc : (xs : List ℕ) (v x : ℕ) → number_from v (xs ++ (x ∷ [])) ≡ 10 * number_from v xs + (x - 48)
unfolding number_from
number-snoc [] v x = refl
number-snoc (y ∷ xs) v x = number-snoc xs (10 * v + (y - 48)) x

pub record Writes (n : ℕ) (word : List ℕ) : Type 0 where
  pub digits : all_digits word ≡ true
  pub value : number word ≡ n
  pub some : 1 ≤ length word
  pub first : 1 ≤ n → at word 0 ≡ 48 → ⊥

writes_one : (n : ℕ) → n < 10 → Writes n (decimal n)
unfolding all_digits number_from
writes_one n l = rw (decimal-one n l) (record {
  digits = both (is_digit (48 + n)) true (is_digit-true (48 + n) (omega arith) (omega arith)) refl;
  value = omega arith;
  some = omega arith;
  first = λ o e. omega arith;
})

writes-next : (n : ℕ) → 10 ≤ n → n < 2 ^ 64 → Writes (n / 10) (decimal (n / 10)) → Writes n (decimal n)
writes-next n low fits tenth =
    let front = decimal (n / 10) in
    let last = 48 + n % 10 in
    let head : at (front ++ (last ∷ [])) 0 ≡ at front 0 = get_or-append front (last ∷ []) 0 0 tenth.some in
    rw (decimal-next n low fits) (record {
      digits = digits-snoc front last tenth.digits (is_digit-true last (omega arith) (omega arith));
      value = number-snoc front 0 last ∙ omega (arith, tenth.value);
      some = rw length-append (omega arith);
      first = λ o e. tenth.first (omega arith) (sym head ∙ e);
    })

writes_below : (k n : ℕ) → n < 10 ^ suc k → n < 2 ^ 64 → Writes n (decimal n)
writes_below zero n h fits = writes_one n h
writes_below (suc k) n h fits = elim (dec_lt n 10) [
  | yes l ↦ writes_one n l
  | no l ↦
      let tenth : n / 10 < 10 ^ suc k = omega (arith, pow-suc 10 (suc k)) in
      writes-next n (omega arith) fits (writes_below k (n / 10) tenth (omega arith))
]

pub decimal-writes : (n : ℕ) → n < 2 ^ 64 → Writes n (decimal n)
decimal-writes n h = writes_below 19 n (omega arith) h

-- a number of at most k + 1 digits
pub decimal-numeral : (k n : ℕ) → n < 10 ^ suc k → n < 2 ^ 64 → is_numeral (suc k) (decimal n) ≡ true
decimal-numeral k n few fits =
    let w = decimal-writes n fits in
    let short = decimal-short k n few in
    elim (dec_lt n 1) [
      | yes none ↦ one-digit (suc k) (decimal n) w.some short w.digits (ap length (decimal-one n (omega arith)))
      | no more ↦ first-digit (suc k) (decimal n) w.some short w.digits (w.first (omega arith))
    ]

lacks-digits : (c : ℕ) (xs : List ℕ) → c < 48 → all_digits xs ≡ true → lacks c xs ≡ true
unfolding all_digits lacks
lacks-digits c [] l h = refl
lacks-digits c (x ∷ xs) l h =
    let b = both_true (is_digit x) (all_digits xs) h in
    let r = digit-range x b.0 in
    rw (ne_eqb x c (λ e. omega (arith, e, r.0))) (lacks-digits c xs l b.1)

pub lacks-decimal : (c n : ℕ) → c < 48 → n < 2 ^ 64 → lacks c (decimal n) ≡ true
lacks-decimal c n l h = lacks-digits c (decimal n) l (decimal-writes n h).digits

-- from the front: digits behind those of v
number-grows : (xs : List ℕ) (v : ℕ) → v ≤ number_from v xs
unfolding number_from
number-grows [] v = omega arith
number-grows (x ∷ xs) v = omega (arith, number-grows xs (10 * v + (x - 48)))

number_small : (xs : List ℕ) (v i : ℕ) → all_digits xs ≡ true → v < 10 ^ i → number_from v xs < 10 ^ (i + length xs)
unfolding number_from all_digits
number_small [] v i h l = rw add-zero l
number_small (x ∷ xs) v i h l =
    let b = both_true (is_digit x) (all_digits xs) h in
    let r = digit-range x b.0 in
    let place : suc i + length xs ≡ i + suc (length xs) = omega arith in
    subst (λ (k : ℕ). number_from (10 * v + (x - 48)) xs < 10 ^ k) place (number_small xs (10 * v + (x - 48)) (suc i) b.1 (rw (pow-suc 10 i) (omega (arith, r.1))))

-- one digit and up to eight more
digits-small : (xs : List ℕ) (v : ℕ) → all_digits xs ≡ true → v < 10 → length xs ≤ 8 → number_from v xs < 2 ^ 64
digits-small xs v h l few =
    let most : 1 + length xs ≤ 9 = omega (arith, few) in
    omega (arith, small (number_from v xs) (1 + length xs) (number_small xs v 1 h l) most)

decimal-from : (xs : List ℕ) (v : ℕ) → 1 ≤ v → all_digits xs ≡ true → number_from v xs < 2 ^ 64 → decimal (number_from v xs) ≡ decimal v ++ xs
unfolding number_from all_digits
decimal-from [] v l h fits = sym (append-nil (decimal v))
decimal-from (x ∷ xs) v l h fits =
    let b = both_true (is_digit x) (all_digits xs) h in
    let r = digit-range x b.0 in
    let u = 10 * v + (x - 48) in
    let tenth : u / 10 ≡ v = omega (arith, r.0, r.1) in
    let last : 48 + u % 10 ≡ x = omega (arith, r.0, r.1) in
    let small : u < 2 ^ 64 = omega (arith, number-grows xs u) in
    decimal-from xs u (omega arith) b.1 fits
    ∙ ap (λ (ys : List ℕ). ys ++ xs)
    (decimal-next u (omega arith) small ∙ ap₂ (λ (a c : ℕ). decimal a ++ (c ∷ [])) tenth last)
    ∙ append_assoc (decimal v) (x ∷ []) xs

-- a leading zero stands alone
zero-alone : (xs : List ℕ) → (eqb (suc (length xs)) 1 || not (eqb 48 48)) ≡ true → xs ≡ []
zero-alone [] led = refl
zero-alone (y ∷ ys) led = absurd (true≢false (sym led ∙ rw (ne_eqb (suc (suc (length ys))) 1 (λ z. omega arith))))

digits_decimal : (word : List ℕ) → 1 ≤ length word → length word ≤ 9 → all_digits word ≡ true → (eqb (length word) 1 || not (eqb (at word 0) 48)) ≡ true
    → decimal (number word) ≡ word
unfolding number_from all_digits
digits_decimal [] some few all led = absurd (omega arith)
digits_decimal (x ∷ xs) some few all led =
    let b = both_true (is_digit x) (all_digits xs) all in
    let r = digit-range x b.0 in
    let v : 10 * 0 + (x - 48) ≡ x - 48 = omega arith in
    let one : decimal (x - 48) ≡ x ∷ [] = decimal-one (x - 48) (omega (arith, r.1)) ∙ ap (λ (n : ℕ). n ∷ []) (omega (arith, r.0)) in
    ap (λ (n : ℕ). decimal (number_from n xs)) v ∙ elim (dec_lt 48 x) [
      | yes l ↦ decimal-from xs (x - 48) (omega arith) b.1 (digits-small xs (x - 48) b.1 (omega (arith, r.1)) (omega (arith, few))) ∙ ap (λ (ys : List ℕ). ys ++ xs) one
      | no l ↦
          let e : x ≡ 48 = omega (arith, r.0) in
          let none : xs ≡ [] = zero-alone xs (sym (ap (λ (y : ℕ). eqb (suc (length xs)) 1 || not (eqb y 48)) e) ∙ led) in
          ap (λ (ys : List ℕ). decimal (number_from (x - 48) ys)) none ∙ one ∙ ap (λ (ys : List ℕ). x ∷ ys) (sym none)
    ]

pub numeral-decimal : (most : ℕ) (word : List ℕ) → most ≤ 9 → is_numeral most word ≡ true → decimal (number word) ≡ word
unfolding is_numeral
numeral-decimal most word few h =
    let a = both_true (leb 1 (length word) && leb (length word) most) (all_digits word && (eqb (length word) 1 || not (eqb (at word 0) 48))) h in
    let sizes = both_true (leb 1 (length word)) (leb (length word) most) a.0 in
    let b = both_true (all_digits word) (eqb (length word) 1 || not (eqb (at word 0) 48)) a.1 in
    digits_decimal word (leb-true 1 (length word) sizes.0) (omega (arith, few, leb-true (length word) most sizes.1)) b.0 b.1
