-- Lines of numbers, printed (`spaced` of `listing`) and read (`asks` and `numbers` of `lines`): each undoes the other.
--     asks-spaced, numbers-spaced     a printed line is one of so many numbers, and those are its numbers
--     lacks-spaced                    it has no LF
--     spaced-numbers                  a line of numbers is what its numbers print
-- Assumes nothing.
use mathlib.Core.Path.{◌≡◌, refl, sym, ap, ap₂, ◌∙◌}
use mathlib.Core.Bool.{true, ◌&&◌}
use mathlib.Core.List.{List, [], ◌∷◌, ◌++◌, map, append-nil}
use Prim.Native.Nat.{ℕ, suc, ◌*◌, ◌^◌, ◌≤◌, ◌<◌}
use native.Mathlib.Omega.{arith}
use lib.Dec.{eqb, ltb}
use lib.ListN.{length, length-append, length-map}
use borrow.Author.Tests.{lt-ltb, eq-eqb}
use Rattle.lists.proofs.Tests.{both, both_true}
use Rattle.field.specs.Residues.{Residues}
use Rattle.lines.specs.Lines.{cut_at, number, is_numeral, all_numerals, asks, numbers}
use Rattle.lines.proofs.DigitLaws.{small}
use Rattle.lines.proofs.Cuts.{lacks, lacks-append, cut-some, cut-at, cut-end, glued, glue-cut}
use Rattle.listing.specs.Decimal.{decimal, spaced}
use Rattle.listing.proofs.Digits.{decimal-short}
use Rattle.readback.proofs.Numerals.{decimal-writes, decimal-numeral, lacks-decimal, numeral-decimal}

spaced-next : (a b : ℕ) (ns : List ℕ) → spaced (a ∷ b ∷ ns) ≡ decimal a ++ (32 ∷ spaced (b ∷ ns))
unfolding spaced
spaced-next a b ns = refl

spaced-last : (a : ℕ) → spaced (a ∷ []) ≡ decimal a
unfolding spaced
spaced-last a = append-nil (decimal a)

-- numbers of at most k + 1 digits
module _ (k : ℕ) (few : k ≤ 8) where
  fits : (n : ℕ) → n < 10 ^ suc k → n < 2 ^ 64
  fits n h =
      let k' : suc k ≤ 9 = omega (arith, few) in
      omega (arith, small n (suc k) h k')

  words_of : (a : ℕ) (ns : List ℕ) → Residues (10 ^ suc k) (a ∷ ns) → cut_at 32 (spaced (a ∷ ns)) ≡ map decimal (a ∷ ns)
  words_of a [] h = rw (spaced-last a) (cut-end 32 (decimal a) (lacks-decimal 32 a (omega arith) (fits a (h 0))))
  words_of a (b ∷ ns) h =
      rw (spaced-next a b ns)
      (cut-at 32 (decimal a) (spaced (b ∷ ns)) (lacks-decimal 32 a (omega arith) (fits a (h 0)))
      ∙ ap (λ (words : List (List ℕ)). decimal a ∷ words) (words_of b ns (λ i. h (suc i))))

  numerals : (ns : List ℕ) → Residues (10 ^ suc k) ns → all_numerals (suc k) (map decimal ns) ≡ true
  unfolding all_numerals
  numerals [] h = refl
  numerals (n ∷ ns) h =
      both (is_numeral (suc k) (decimal n)) (all_numerals (suc k) (map decimal ns)) (decimal-numeral k n (h 0) (fits n (h 0))) (numerals ns (λ i. h (suc i)))

  values : (ns : List ℕ) → Residues (10 ^ suc k) ns → map number (map decimal ns) ≡ ns
  values [] h = refl
  values (n ∷ ns) h = ap₂ ◌∷◌ (decimal-writes n (fits n (h 0))).value (values ns (λ i. h (suc i)))

  -- each number with the space or LF behind it has at most 10 bytes
  size : (a : ℕ) (ns : List ℕ) → Residues (10 ^ suc k) (a ∷ ns) → length (spaced (a ∷ ns)) ≤ 10 * length (a ∷ ns)
  size a [] h = rw (spaced-last a) (omega (arith, few, decimal-short k a (h 0)))
  size a (b ∷ ns) h =
      rw (spaced-next a b ns, length-append) (omega (arith, few, decimal-short k a (h 0), size b ns (λ i. h (suc i))))

  pub asks-spaced : (a : ℕ) (ns : List ℕ) → length ns ≤ 100 → Residues (10 ^ suc k) (a ∷ ns) → asks (suc k) (length (a ∷ ns)) (spaced (a ∷ ns)) ≡ true
  unfolding asks
  asks-spaced a ns short h =
      both (ltb (length (spaced (a ∷ ns))) 1024) (all_numerals (suc k) (cut_at 32 (spaced (a ∷ ns))) && eqb (length (cut_at 32 (spaced (a ∷ ns)))) (length (a ∷ ns)))
      (lt-ltb (length (spaced (a ∷ ns))) 1024 (omega (arith, short, size a ns h)))
      (rw (words_of a ns h)
      (both (all_numerals (suc k) (map decimal (a ∷ ns))) (eqb (length (map decimal (a ∷ ns))) (length (a ∷ ns))) (numerals (a ∷ ns) h)
      (eq-eqb (length (map decimal (a ∷ ns))) (length (a ∷ ns)) (length-map (a ∷ ns) decimal))))

  pub numbers-spaced : (a : ℕ) (ns : List ℕ) → Residues (10 ^ suc k) (a ∷ ns) → numbers (spaced (a ∷ ns)) ≡ a ∷ ns
  unfolding numbers
  numbers-spaced a ns h = ap (map number) (words_of a ns h) ∙ values (a ∷ ns) h

  pub lacks-spaced : (a : ℕ) (ns : List ℕ) → Residues (10 ^ suc k) (a ∷ ns) → lacks 10 (spaced (a ∷ ns)) ≡ true
  unfolding lacks
  lacks-spaced a [] h = rw (spaced-last a) (lacks-decimal 10 a (omega arith) (fits a (h 0)))
  lacks-spaced a (b ∷ ns) h =
      rw (spaced-next a b ns)
      (lacks-append 10 (decimal a) (32 ∷ spaced (b ∷ ns)) (lacks-decimal 10 a (omega arith) (fits a (h 0))) (lacks-spaced b ns (λ i. h (suc i))))

-- numerals with spaces between are what their numbers print
glued-words : (most : ℕ) (word : List ℕ) (words : List (List ℕ)) → most ≤ 9 → all_numerals most (word ∷ words) ≡ true
    → spaced (map number (word ∷ words)) ≡ glued 32 (word ∷ words)
unfolding all_numerals glued
glued-words most word [] few h =
    let b = both_true (is_numeral most word) true h in
    spaced-last (number word) ∙ numeral-decimal most word few b.0
glued-words most word (more ∷ words) few h =
    let b = both_true (is_numeral most word) (all_numerals most (more ∷ words)) h in
    spaced-next (number word) (number more) (map number words)
    ∙ ap₂ (λ (x y : List ℕ). x ++ (32 ∷ y)) (numeral-decimal most word few b.0) (glued-words most more words few b.1)

pub spaced-numbers : (most n : ℕ) (bytes : List ℕ) → most ≤ 9 → asks most n bytes ≡ true → spaced (numbers bytes) ≡ bytes
unfolding asks numbers
spaced-numbers most n bytes few h =
    let a = both_true (ltb (length bytes) 1024) (all_numerals most (cut_at 32 bytes) && eqb (length (cut_at 32 bytes)) n) h in
    let b = both_true (all_numerals most (cut_at 32 bytes)) (eqb (length (cut_at 32 bytes)) n) a.1 in
    let s = cut-some 32 bytes in
    let all : all_numerals most (s.one ∷ s.others) ≡ true = sym (ap (all_numerals most) s.pieces) ∙ b.0 in
    ap (λ (words : List (List ℕ)). spaced (map number words)) s.pieces
    ∙ glued-words most s.one s.others few all
    ∙ sym (ap (glued 32) s.pieces)
    ∙ glue-cut 32 bytes
