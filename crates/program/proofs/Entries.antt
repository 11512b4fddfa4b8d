-- Any n digits, each below its own radix, are the digits of an entry, so demand 2 speaks of every list of digits that the run accepts.
-- The entry's number is made by Horner's rule; dividing it by the product of the last radices takes the digits of these away.
--     entry_of         the entry of a list of digits
--     demand2-digits   demand 2 for a list of digits
-- Assumes nothing.
use mathlib.Core.Path.{◌≡◌, sym, ap, ap₂, ◌∙◌}
use mathlib.Core.List.{List}
use Prim.Native.Nat.{ℕ, zero, suc, ◌+◌, ◌-◌, ◌*◌, ◌/◌, ◌%◌, ◌≤◌, ◌<◌}
use native.Mathlib.Nat.{mul_comm, div-one, div-div-eq-div-mul, le_refl}
use native.Mathlib.Numerals.{add-one}
use native.Mathlib.Omega.{arith}
use lib.Arith.{digits_div, digits_mod, digits_lt}
use lib.ListN.{length, take, drop, drop_of_length-le}
use lib.Seq.{take_all}
use Rattle.lists.specs.Places.{tab, at}
use Rattle.lists.proofs.Tabs.{is-tab}
use Rattle.plan.specs.Numbers.{product, Within}
use Rattle.plan.specs.Parts.{Given}
use Rattle.plan.specs.Rows.{digit, digits, values}
use Rattle.plan.specs.Equation.{equation1}
use Rattle.plan.proofs.Radix.{product-next, product-drop}
use Rattle.program.specs.Steps.{output}
use Rattle.program.specs.Layout.{layout}
use Rattle.program.proofs.Demand2.{demand2}

module _ (R digits : List ℕ) (low : (j : ℕ) → j < length R → at digits j < at R j) where
  -- the number of the first k digits
  number : ℕ → ℕ
  number zero = 0
  number (suc k) = number k * at R k + at digits k

  number-below : (k : ℕ) → k ≤ length R → number k < product (take k R)
  unfolding number product
  number-below zero l = omega arith
  number-below (suc k) l =
      rw (ap (λ (n : ℕ). product (take n R)) (sym (add-one k)) ∙ product-next R k l) (digits_lt (number-below k (omega arith)) (low k l))

  -- the whole number without its last r digits
  number-front : (r k : ℕ) → k + r ≡ length R → number (length R) / product (drop k R) ≡ number k
  unfolding number product
  number-front zero k e =
      let all : length R ≡ k = omega arith in
      ap₂ ◌/◌ (ap number all) (ap product (drop_of_length-le R {i = k} (omega arith))) ∙ div-one (number k)
  number-front (suc r) k e =
      let l : k < length R = omega arith in
      ap (λ (z : ℕ). number (length R) / z) (product-drop R k l ∙ mul_comm (at R k) (product (drop (suc k) R)))
      ∙ sym (div-div-eq-div-mul (number (length R)) (product (drop (suc k) R)) (at R k))
      ∙ ap (λ (z : ℕ). z / at R k) (number-front r (suc k) (omega arith))
      ∙ digits_div (number k) (low k l)

  number-digit : (j : ℕ) → j < length R → digit R (number (length R)) j ≡ at digits j
  unfolding digit number
  number-digit j l =
      ap (λ (z : ℕ). z % at R j) (number-front (length R - suc j) (suc j) (omega arith)) ∙ digits_mod (number j) (low j l)

  pub entry_of : length digits ≡ length R → (i : ℕ) × (i < product R) × (tab (length R) (digit R i) ≡ digits)
  entry_of size = (
    number (length R),
    rw (take_all (length R) R (le_refl (length R))) at (number-below (length R) (le_refl (length R))),
    sym (is-tab digits (length R) (digit R (number (length R))) 0 size (λ j h. sym (number-digit j h))),
  )

pub demand2-digits : (G : Given) (β xs : List ℕ) → Within G.numbers → length G.radices ≡ G.numbers.n → length xs ≡ G.numbers.n
    → ((j : ℕ) → j < G.numbers.n → at xs j < at G.radices j)
    → (i : ℕ) × (i < product G.radices) × (digits G i ≡ xs)
    × (output G.numbers G.tables (layout G.numbers G.weights G.products β) xs ≡ equation1 G.numbers G.products β (values G i) % G.numbers.p)
demand2-digits G β xs within count size low =
    let e = entry_of G.radices xs (λ j l. low j (omega arith)) (size ∙ sym count) in
    let same : digits G e.0 ≡ xs = ap (λ (n : ℕ). tab n (digit G.radices e.0)) (sym count) ∙ e.2 in
    (e.0, e.1, same, ap (output G.numbers G.tables (layout G.numbers G.weights G.products β)) (sym same) ∙ demand2 G β within e.0)
