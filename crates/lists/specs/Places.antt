-- A row, a part or a store is read as a function of the place. These definitions turn such functions into numbers, lists and tests.
-- They stand on the standard library alone and render no document: the definitions of the crates above, which do, are written in them.
--     sum f n            f 0 + f 1 + .. + f (n - 1)
--     largest f n        the largest of f 0, f 1, .., f (n - 1); 0 where n is 0
--     tab n f            the list f 0, f 1, .., f (n - 1)
--     joined f n         the lists f 0, f 1, .., f (n - 1), one after the other
--     placed out k xs    the list out with xs written over it from place k on
--     every f n          the test f holds at each place below n
--     at xs i            what stands at place i of the list xs (0 past its end)
--     same xs ys         two lists of numbers are equal, as a test
use Rattle.std.specs.Prelude.{List, [], ◌∷◌, ◌++◌, Bool, true, false, ◌&&◌, ℕ, zero, suc, ◌+◌, max, eqb, get_or, length, take, drop}

unfoldable pub sum : (ℕ → ℕ) → ℕ → ℕ
sum f zero = 0
sum f (suc n) = sum f n + f n

unfoldable pub largest : (ℕ → ℕ) → ℕ → ℕ
largest f zero = 0
largest f (suc n) = max (largest f n) (f n)

unfoldable pub tab {ℓ} : {A : Type ℓ} → ℕ → (ℕ → A) → List A
tab zero f = []
tab (suc n) f = f zero ∷ tab n (λ k. f (suc k))

unfoldable pub joined {ℓ} : {A : Type ℓ} → (ℕ → List A) → ℕ → List A
joined f zero = []
joined f (suc n) = joined f n ++ f n

abbrev pub placed {ℓ} : {A : Type ℓ} → List A → ℕ → List A → List A
placed out k xs = take k out ++ (xs ++ drop (k + length xs) out)

unfoldable pub every : (ℕ → Bool) → ℕ → Bool
every f zero = true
every f (suc n) = every f n && f n

abbrev pub at : List ℕ → ℕ → ℕ
at xs i = get_or xs i 0

unfoldable pub same : List ℕ → List ℕ → Bool
same [] [] = true
same [] (y ∷ ys) = false
same (x ∷ xs) [] = false
same (x ∷ xs) (y ∷ ys) = eqb x y && same xs ys
