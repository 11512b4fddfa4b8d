-- C-16: nothing is lost by a move, and every call answers over the new layout what it answered over the old one (`NoLoss`, `SameCalls`,
-- `SameFilings` of `moves`).
--     no-loss           what a move gives, the other takes, and gives back what it was
--     same-calls        one call, on an old store in reduced form
--     same-filings      after every list of filings from it
--     from_empty        the same from the empty store
-- A call depends on the places of its store alone, and they are the same. Assumes nothing.
use mathlib.Core.Path.{◌≡◌, refl, sym, ap, ap₂, ◌∙◌}
use mathlib.Core.Bool.{true}
use mathlib.Core.List.{List, [], ◌∷◌}
use Prim.Native.Nat.{ℕ, zero, suc, ◌+◌, ◌≤◌, ◌<◌}
use native.Mathlib.Nat.{le_refl}
use native.Mathlib.Omega.{arith}
use lib.Dec.{eqb}
use lib.ListN.{length, replicate, length-replicate}
use borrow.Author.Tests.{eq-eqb, eqb-true, not-false}
use Rattle.lists.proofs.Tests.{both_true}
use Rattle.lists.proofs.Tabs.{tab-ext}
use Rattle.lists.proofs.Parts.{zeros-at}
use Rattle.plan.specs.declared.admission.Own.TheVariants.{StoreAndFull}
use Rattle.plan.specs.Causes.{first, leaves, answer}
use Rattle.plan.specs.Numbers.{columns, Within}
use Rattle.plan.specs.Parts.{Given, store_size, full_size, call_causes}
use Rattle.plan.specs.Rows.{entry_cause}
use Rattle.plan.proofs.Refusals.{none-met}
use Rattle.plan.proofs.Admitting.{unrefused, other-causes}
use Rattle.store.specs.Elimination.{Reduced, is_reduced, after, cells}
use Rattle.store.specs.Calls.{equation, empty_store, values_of, outcome_of, file_causes, filed, coefficients}
use Rattle.store.specs.Settled as settled
use Rattle.store.specs.Settled.{standing_of, settle_causes}
use Rattle.moves.specs.Moves.{full_cells, full_flat, halved, widened, to_half_own, to_full_own, NoLoss, full_causes, full_outcome, full_file_causes, full_file_store, full_standing, full_coefficients, SameCalls, filed_all, full_filed_all, SameFilings}
use Rattle.store.proofs.Bytes.{flat-length, flat-ext}
use Rattle.store.proofs.ReducedForm.{is_reduced-means, reduced-ext, flat-reads, flat-reduced}
use Rattle.store.proofs.Filing.{after-reduced}
use Rattle.store.proofs.Holding.{empty-reduced}
use Rattle.store.proofs.EntryEquations.{equation-residues}
use Rattle.store.proofs.Readiness.{unmet}
use Rattle.laws.proofs.SameOutcomes.{outcome-ext, after-ext, standing-ext}
use Rattle.moves.proofs.FullLayout.{full-length, cells-full, halved-widened, widened-halved, stands-for, zeros-halved}

pub no-loss : (G : Given) → NoLoss G
no-loss G =
    record {
      back = λ full half e.
          let u = unrefused G (StoreAndFull (length half) (length full)) (to_half_own full) e in
          let lengths = both_true (eqb (length half) (store_size C)) (eqb (length full) (full_size C)) u.own-fits in
          let red = (is_reduced-means p C (full_cells C full)).0 (not-false (is_reduced p C (full_cells C full)) (none-met (to_half_own full G) (omega arith) u.rest-none).0) in
          let same = flat-length C (full_cells C full) ∙ sym (eqb-true (length half) (store_size C) lengths.0) in (
            ap (λ (n : ℕ). first (call_causes G (StoreAndFull n (length full)) (to_full_own (halved C full)))) same
                ∙ other-causes G (StoreAndFull (length half) (length full)) (to_half_own full) (to_full_own (halved C full)) e
                ∙ rw ((is_reduced-means p C (cells C (halved C full))).1 (flat-reduced p C (full_cells C full) red)),
            widened-halved p C full (eqb-true (length full) (full_size C) lengths.1) red,
          );
      again = λ half full e.
          let u = unrefused G (StoreAndFull (length half) (length full)) (to_full_own half) e in
          let lengths = both_true (eqb (length half) (store_size C)) (eqb (length full) (full_size C)) u.own-fits in
          let red = (is_reduced-means p C (cells C half)).0 (not-false (is_reduced p C (cells C half)) (none-met (to_full_own half G) (omega arith) u.rest-none).0) in
          let same = full-length C (cells C half) ∙ sym (eqb-true (length full) (full_size C) lengths.1) in (
            ap (λ (n : ℕ). first (call_causes G (StoreAndFull (length half) n) (to_half_own (widened C half)))) same
                ∙ other-causes G (StoreAndFull (length half) (length full)) (to_full_own half) (to_half_own (widened C half)) e
                ∙ rw ((is_reduced-means p C (full_cells C (widened C half))).1 ((stands-for p C half).0 red)),
            halved-widened C half (eqb-true (length half) (store_size C) lengths.0),
          );
    }
  where
    p : ℕ
    p = G.numbers.p

    C : ℕ
    C = columns G.numbers

module _ (G : Given) where
  abbrev C : ℕ
  C = columns G.numbers

  abbrev p : ℕ
  p = G.numbers.p

  module _ (full : List ℕ) (fits : length full ≡ full_size C) (red : Reduced p C (full_cells C full)) (i v : ℕ) where
    places : (q j : ℕ) → q < C → j ≤ C → cells C (halved C full) q j ≡ full_cells C full q j
    places = flat-reads p C (full_cells C full) red

    below : (q j : ℕ) → q < C → j < C + 1 → cells C (halved C full) q j ≡ full_cells C full q j
    below q j l k = places q j l (omega arith)

    both-fit : (eqb (length (halved C full)) (store_size C) ≡ true) × (eqb (length full) (full_size C) ≡ true)
    both-fit = (eq-eqb (length (halved C full)) (store_size C) (flat-length C (full_cells C full)), eq-eqb (length full) (full_size C) fits)

    both-reduced : (is_reduced p C (cells C (halved C full)) ≡ true) × (is_reduced p C (full_cells C full) ≡ true)
    both-reduced = (
      (is_reduced-means p C (cells C (halved C full))).1 (flat-reduced p C (full_cells C full) red),
      (is_reduced-means p C (full_cells C full)).1 red,
    )

    same_outcome : outcome_of G (halved C full) i v ≡ full_outcome G full i v
    same_outcome = outcome-ext p C (C + 1) (omega arith) (cells C (halved C full)) (full_cells C full) below (equation G i v) (equation G i v) (λ j l. refl) (omega arith)

    same-standing : standing_of G (halved C full) i ≡ full_standing G full i
    same-standing = standing-ext p C (C + 1) (omega arith) (cells C (halved C full)) (full_cells C full) below (equation G i 0) (equation G i 0) (λ j l. refl) (omega arith)

    same-refusal : first (file_causes G (halved C full) i v) ≡ first (full_file_causes G full i v)
    unfolding call_causes
    same-refusal = rw (both-fit.0, both-fit.1, both-reduced.0, both-reduced.1, same_outcome)

    same-settling : first (settle_causes G (halved C full) i) ≡ first (full_causes G full (entry_cause G i ∷ []))
    unfolding call_causes
    same-settling = rw (both-fit.0, both-fit.1, both-reduced.0, both-reduced.1)

    abbrev afterwards : ℕ → ℕ → ℕ
    afterwards = after p C (full_cells C full) (equation G i v)

    same-filed : filed G (halved C full) i v ≡ halved C (full_flat C afterwards)
    unfolding filed
    same-filed =
        flat-ext C (after p C (cells C (halved C full)) (equation G i v)) (full_cells C (full_flat C afterwards))
        (λ q j l low k.
        after-ext p C (C + 1) (omega arith) (cells C (halved C full)) (full_cells C full) below (equation G i v) (equation G i v) (λ j l. refl) q j l (omega arith)
        ∙ sym (cells-full C afterwards q j l k))

    moved : (k : ℕ) (x y : List ℕ) → x ≡ halved C y → leaves k x (halved C full) ≡ halved C (leaves k y full)
    moved zero x y e = e
    moved (suc k) x y e = refl

    pub same-calls : SameCalls G full i v
    unfolding coefficients full_coefficients
    same-calls =
        record {
          reply = ap₂ (λ k o. answer k (values_of o)) same-refusal same_outcome;
          store = ap (λ (k : ℕ). leaves k (filed G (halved C full) i v) (halved C full)) same-refusal
              ∙ moved (first (full_file_causes G full i v)) (filed G (halved C full) i v) (full_flat C afterwards) same-filed;
          settles = ap₂ (λ k o. answer k (settled.values_of o)) same-settling same-standing;
          read = tab-ext C (λ q. cells C (halved C full) q C) (λ q. full_cells C full q C) 0 (λ q l. places q C l (le_refl C));
        }

    -- the old store after a filing
    kept : (k : ℕ) → k ≡ first (full_file_causes G full i v) → (length (leaves k (full_flat C afterwards) full) ≡ full_size C) × Reduced p C (full_cells C (leaves k (full_flat C afterwards) full))
    kept zero e =
        let u = unmet G (halved C full) i v (same-refusal ∙ sym e) in (
          full-length C afterwards,
          reduced-ext p C afterwards (full_cells C (full_flat C afterwards)) (λ q j l k. sym (cells-full C afterwards q j l k))
              (after-reduced p C u.within.prime (full_cells C full) (equation G i v) red
              (equation-residues G i v u.within u.lent (omega (arith, u.below, u.within.value-high)))),
        )
    kept (suc k) e = (fits, red)

  pub same-filings : (full : List ℕ) → length full ≡ full_size C → Reduced p C (full_cells C full) → (xs : List (ℕ × ℕ)) → SameFilings G full xs
  unfolding filed_all full_filed_all
  same-filings full fits red [] = record { stores = refl; calls = same-calls full fits red }
  same-filings full fits red (x ∷ xs) =
      let next = kept full fits red x.0 x.1 (first (full_file_causes G full x.0 x.1)) refl in
      let rest = same-filings (full_file_store G full x.0 x.1) next.0 next.1 xs in
      record {
        stores = ap (λ (S : List ℕ). filed_all G S xs) (same-calls full fits red x.0 x.1).store ∙ rest.stores;
        calls = rest.calls;
      }

  -- from the empty store, which is the empty one moved
  pub from_empty : Within G.numbers → (xs : List (ℕ × ℕ))
      → (halved C (replicate (full_size C) 0) ≡ empty_store G.numbers) × SameFilings G (replicate (full_size C) 0) xs
  from_empty within xs = (
    zeros-halved C,
    same-filings (replicate (full_size C) 0) (length-replicate (full_size C) 0)
        (reduced-ext p C (λ q j. 0) (full_cells C (replicate (full_size C) 0)) (λ q j l k. sym (zeros-at (full_size C) _)) (empty-reduced p C within.prime)) xs,
  )
