-- The laws of `every` and of `&&`: a test of all places below n, computed once, gives the fact at each place, and the facts give the test.
--     refute                   a test that cannot hold is false
--     same_tests               two tests that hold together are the same
--     and-false, and_assoc     the standard library's, passed on
--     both_true, both          from a conjunction to its halves, and back
--     every-next, every-cons   one place more, at the end and in front
--     every-list_all           a test of each number of a list, as std has it
--     every-at, every_of       from the test to a place, and from all places to the test
-- Assumes nothing.
use mathlib.Core.Path.{◌≡◌, refl, sym, ap, ◌∙◌}
use mathlib.Core.Bool.{Bool, true, false, ◌&&◌, false≢true}
use mathlib.Core.List.{List, [], ◌∷◌}
use mathlib.Core.Logic.{⊎_elim}
use Prim.Native.Nat.{ℕ, zero, suc, ◌+◌, ◌<◌}
use native.Mathlib.Nat.{le_of_suc-le-suc, not-suc-le-zero, le_step, lt-suc_self, eq-or-lt_of_le}
use native.Mathlib.Numerals.{add-one}
use lib.ListN.{length}
use Rattle.std.specs.List.{list_all}
use Rattle.lists.specs.Places.{every, at}
pub use mathlib.Core.Bool.{and-false, and_assoc}

pub refute : (b : Bool) → (b ≡ true → ⊥) → b ≡ false
refute true h = absurd (h refl)
refute false h = refl

pub same_tests : (a b : Bool) → (a ≡ true → b ≡ true) → (b ≡ true → a ≡ true) → a ≡ b
same_tests true b h k = sym (h refl)
same_tests false b h k = sym (refute b (λ e. false≢true (k e)))

pub both_true : (a b : Bool) → (a && b) ≡ true → (a ≡ true) × (b ≡ true)
both_true true b h = (refl, h)
both_true false b h = absurd (false≢true h)

pub both : (a b : Bool) → a ≡ true → b ≡ true → (a && b) ≡ true
both true b p q = q
both false b p q = p

pub every-next : (f : ℕ → Bool) (n : ℕ) → every f (n + 1) ≡ (every f n && f n)
unfolding every
every-next f n = rw add-one refl

pub every-cons : (f : ℕ → Bool) (n : ℕ) → every f (suc n) ≡ (f 0 && every (λ j. f (suc j)) n)
unfolding every
every-cons f zero = swap (f 0)
  where
    swap : (b : Bool) → (true && b) ≡ (b && true)
    swap true = refl
    swap false = refl
every-cons f (suc n) = ap (λ (b : Bool). b && f (suc n)) (every-cons f n) ∙ and_assoc (f 0) (every (λ j. f (suc j)) n) (f (suc n))

pub every-at : (f : ℕ → Bool) (n : ℕ) → every f n ≡ true → (i : ℕ) → i < n → f i ≡ true
unfolding every
every-at f zero h i l = absurd (not-suc-le-zero l)
every-at f (suc n) h i l =
    let hs = both_true (every f n) (f n) h in
    ⊎_elim (λ (e : i ≡ n). ap f e ∙ hs.1) (λ (m : i < n). every-at f n hs.0 i m) (eq-or-lt_of_le (le_of_suc-le-suc l))

pub every_of : (f : ℕ → Bool) (n : ℕ) → ((i : ℕ) → i < n → f i ≡ true) → every f n ≡ true
unfolding every
every_of f zero h = refl
every_of f (suc n) h = both (every f n) (f n) (every_of f n (λ i l. h i (le_step l))) (h n (lt-suc_self n))

-- a test of each number of a list is std's `list_all`
pub every-list_all : (f : ℕ → Bool) (xs : List ℕ) → every (λ j. f (at xs j)) (length xs) ≡ list_all f xs
unfolding every
every-list_all f [] = refl
every-list_all f (x ∷ xs) = every-cons (λ j. f (at (x ∷ xs) j)) (length xs) ∙ ap (λ (b : Bool). f x && b) (every-list_all f xs)
