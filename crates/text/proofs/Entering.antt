-- The entries of a text: the names line that empties the store, and an entry line, from what the code tests and answers.
--     store-small                        the size of the store
--     unlike, alike                      what `==` answers of two lists
--     names-thirteen, names-passed, pair-thirteen, pair-passed       the names lines
--     entries-refuses, entries-reaches   an entry line, at its place in the buffers
-- Assumes nothing.
use mathlib.Core.Path.{◌≡◌, sym, ap, ◌∙◌}
use mathlib.Core.Bool.{true, false, not}
use mathlib.Core.List.{List, ◌++◌}
use Prim.Native.Nat.{ℕ, ◌+◌, ◌*◌, ◌≤◌}
use native.Mathlib.Nat.{mul-le-mul}
use native.Mathlib.Omega.{arith}
use lib.Dec.{eqb}
use lib.Pointwise.{pointwise}
use lib.ListN.{length, take, drop, replicate, length-replicate}
use lib.Seq.{take_at, length-take-le}
use borrow.Author.Tests.{not-true, not-false}
use Rattle.lists.specs.Places.{same}
use Rattle.lists.proofs.Sameness.{eq-same}
use Rattle.plan.specs.declared.refusal.Refusal.{Refusal}
use Rattle.plan.specs.Causes.{first, number}
use Rattle.plan.specs.Numbers.{columns}
use Rattle.plan.specs.Parts.{Given, store_size}
use Rattle.text.specs.Meaning.{names, header, entry_names, entries, next, cause, plan_names, pair_names, entry_causes, entered, judged}
use Rattle.text.proofs.Judging.{stops, reaches}

pub store-small : (C n size : ℕ) → n ≡ C → C ≤ 360 → size ≡ store_size n → (size ≡ store_size C) × (size ≤ 65340)
unfolding store_size
store-small C n size e h s =
    let low : n ≤ 360 = omega arith in
    let high : n + 1 ≤ 361 = omega arith in
    let small : n * (n + 1) ≤ 360 * 361 = mul-le-mul low high in
    (s ∙ ap store_size e, omega (arith, s, small))

-- what `==` answers of two lists
pub unlike : (xs ys zs : List ℕ) → ys ≡ zs → true ≡ not (pointwise eqb xs ys) → same xs zs ≡ false
unlike xs ys zs e h = ap (same xs) (sym e) ∙ sym (eq-same xs ys) ∙ not-true (pointwise eqb xs ys) (sym h)

pub alike : (xs ys zs : List ℕ) → ys ≡ zs → false ≡ not (pointwise eqb xs ys) → same xs zs ≡ true
alike xs ys zs e h = ap (same xs) (sym e) ∙ sym (eq-same xs ys) ∙ not-false (pointwise eqb xs ys) (sym h)

pub names-thirteen : (line : List ℕ) → same line plan_names ≡ false → cause 13 ≡ judged names line
unfolding judged
names-thirteen line e = rw e

pub names-passed : (line : List ℕ) → same line plan_names ≡ true → next header ≡ judged names line
unfolding judged
names-passed line e = rw e

-- the filled part of the store, where its front has been lent and written
front : (S part : List ℕ) (size n : ℕ) → size ≡ n → length part ≡ size → take n (part ++ drop size S) ≡ part
front S part size n e h = take_at part (drop size S) n (h ∙ e)

module _ (G : Given) (line : List ℕ) where
  pub pair-thirteen : same line pair_names ≡ false → cause 13 ≡ judged (entry_names G) line
  unfolding judged
  pair-thirteen e = rw e

  pub pair-passed : (S part : List ℕ) (size : ℕ) → same line pair_names ≡ true → size ≡ store_size (columns G.numbers) → size ≤ length S
      → part ≡ replicate (length (take size S)) 0 → next (entries G (take (store_size (columns G.numbers)) (part ++ drop size S))) ≡ judged (entry_names G) line
  unfolding judged
  pair-passed S part size e h l z =
      let whole : part ≡ replicate size 0 = z ∙ ap (λ (n : ℕ). replicate n 0) (length-take-le size S l) in
      rw e
      (ap (λ (s : List ℕ). next (entries G s))
      (front S part size (store_size (columns G.numbers)) h (ap length whole ∙ length-replicate size 0) ∙ whole ∙ ap (λ (n : ℕ). replicate n 0) h))

-- an entry line in the buffers: the store is the first `size` bytes of its buffer
module _ (G : Given) (S line : List ℕ) (size : ℕ) (sized : size ≡ store_size (columns G.numbers)) where
  at-columns : first (entry_causes G (take size S) line) ≡ first (entry_causes G (take (store_size (columns G.numbers)) S) line)
  at-columns = ap (λ (n : ℕ). first (entry_causes G (take n S) line)) sized

  pub entries-refuses : (r : Refusal) → number r ≡ first (entry_causes G (take size S) line) → cause (number r) ≡ judged (entries G (take (store_size (columns G.numbers)) S)) line
  unfolding judged
  entries-refuses r e = stops r _ _ (e ∙ at-columns)

  pub entries-reaches : (part : List ℕ) → 0 ≡ first (entry_causes G (take size S) line) → size ≤ length S → part ≡ entered G (take size S) line → length part ≡ length (take size S)
      → next (entries G (take (store_size (columns G.numbers)) (part ++ drop size S))) ≡ judged (entries G (take (store_size (columns G.numbers)) S)) line
  unfolding judged
  entries-reaches part z l q same_size =
      ap (λ (s : List ℕ). next (entries G s))
      (front S part size (store_size (columns G.numbers)) sized (same_size ∙ length-take-le size S l) ∙ q ∙ ap (λ (n : ℕ). entered G (take n S) line) sized)
      ∙ reaches _ _ (z ∙ at-columns)
