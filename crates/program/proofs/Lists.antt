-- What a test of the whole list, a list cut into steps and a filled front say of each place.
--     all-every            a test of all items, as a test of all places
--     zip-every            the same of two lists side by side
--     step-number          number j of step i of the list that is cut into steps
--     steps-every          each step of that list passes cause 11
--     loaded               digits at the front of an array of zeros
-- Assumes nothing.
use mathlib.Core.Path.{◌≡◌, refl, sym, ap, ap₂, fun_ext, ◌∙◌}
use mathlib.Core.Bool.{Bool, ◌&&◌}
use mathlib.Core.List.{List, [], ◌∷◌, ◌++◌}
use Prim.Native.Nat.{ℕ, zero, suc, ◌+◌, ◌-◌, ◌*◌, ◌<◌}
use native.Mathlib.Decide.{dec_lt}
use native.Mathlib.Nat.{add-zero}
use native.Mathlib.Omega.{arith}
use lib.Dec.{ltb}
use lib.ListN.{length, drop, get_or, replicate, get_or-append}
use lib.Seq.{get_or-append-add}
use Rattle.std.specs.List.{list_all, zip}
use Rattle.std.specs.Simd.{first_chunks}
use Rattle.std.proofs.lemmas.List.{get_or-take, get_or-drop}
use Rattle.std.proofs.lemmas.Slice.Zip.{length-zip, get_or-zip}
use Rattle.lists.specs.Places.{every, at}
use Rattle.lists.proofs.Tests.{every-cons}
use Rattle.lists.proofs.Parts.{at-past, zeros-at}
use Rattle.plan.specs.declared.numbers.Plan.{Plan}
use Rattle.program.specs.Steps.{good_step}
use Rattle.program.proofs.Pieces.{good_at}

pub all-every : {X : Type 0} (test : X → Bool) (xs : List X) (d : X) (f : ℕ → Bool)
    → ((i : ℕ) → i < length xs → test (get_or xs i d) ≡ f i) → list_all test xs ≡ every f (length xs)
unfolding every
all-every test [] d f h = refl
all-every test (x ∷ xs) d f h =
    ap₂ ◌&&◌ (h 0 (omega arith)) (all-every test xs d (λ j. f (suc j)) (λ i l. h (suc i) (omega arith)))
    ∙ sym (every-cons f (length xs))

pub zip-every : (xs ys : List ℕ) → length ys ≡ length xs
    → list_all (λ (p : ℕ × ℕ). ltb p.0 p.1) (zip xs ys) ≡ every (λ j. ltb (at xs j) (at ys j)) (length xs)
zip-every xs ys e =
    let size : length (zip xs ys) ≡ length xs = rw length-zip (omega arith) in
    all-every (λ (p : ℕ × ℕ). ltb p.0 p.1) (zip xs ys) (0, 0) (λ j. ltb (at xs j) (at ys j))
    (λ i l. ap (λ (p : ℕ × ℕ). ltb p.0 p.1) (get_or-zip xs ys i (0, 0) (omega arith) (omega arith)))
    ∙ ap (every (λ j. ltb (at xs j) (at ys j))) size

pub step-number : (n : ℕ) (xs : List ℕ) (i j : ℕ) → i < n → j < 4 → at (get_or (first_chunks 4 n xs) i []) j ≡ at xs (4 * i + j)
step-number zero xs i j h l = absurd (omega arith)
step-number (suc n) xs zero j h l = get_or-take 4 xs j 0 l ∙ ap (at xs) (omega arith)
step-number (suc n) xs (suc i) j h l =
    step-number n (drop 4 xs) i j (omega arith) l ∙ get_or-drop 4 xs (4 * i + j) 0 ∙ ap (at xs) (omega arith)

pub steps-every : (P : Plan) (xs : List ℕ) (n : ℕ) (chunks : List (List ℕ)) → chunks ≡ first_chunks 4 n xs → length chunks ≡ n
    → list_all (λ (step : List ℕ). good_step P (at step 0) (at step 1) (at step 2) (at step 3)) chunks ≡ every (good_at P xs) n
steps-every P xs n chunks e size =
    all-every (λ (step : List ℕ). good_step P (at step 0) (at step 1) (at step 2) (at step 3)) chunks [] (good_at P xs)
    (λ i l.
    let inside : i < n = omega arith in
    rw (e, step-number n xs i 0 inside (omega arith), step-number n xs i 1 inside (omega arith), step-number n xs i 2 inside (omega arith), step-number n xs i 3 inside (omega arith), add-zero (4 * i)) refl)
    ∙ ap (every (good_at P xs)) size

-- the digits, and zeros behind them
pub loaded : (n : ℕ) (digits front : List ℕ) → front ≡ digits → at (front ++ drop (length digits) (replicate n 0)) ≡ at digits
loaded n digits front e =
    fun_ext (λ k. elim (dec_lt k (length digits)) [
      | yes l ↦ rw e (get_or-append digits (drop (length digits) (replicate n 0)) 0 k l)
      | no l ↦
          let past : length digits + (k - length digits) ≡ k = omega arith in
          rw e
          (ap (at (digits ++ drop (length digits) (replicate n 0))) (sym past)
          ∙ get_or-append-add digits (drop (length digits) (replicate n 0)) (k - length digits) 0
          ∙ get_or-drop (length digits) (replicate n 0) (k - length digits) 0
          ∙ zeros-at n (length digits + (k - length digits))
          ∙ sym (at-past digits k (omega arith)))
    ])
