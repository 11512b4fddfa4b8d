-- Stores that are ready for a filing: the empty one, and each after a filing that was not refused.
--     empty-ready      the empty store's bytes
--     Unmet, unmet     a filing that was not refused: its plan is within limits, its parts and store are as asked, its entry and its value are
--                      in range, and it is no contradiction
--     filed-ready      the store after filing an entry with a value below p
-- Assumes nothing.
use mathlib.Core.Path.{◌≡◌}
use mathlib.Core.Bool.{false}
use mathlib.Core.List.{List}
use Prim.Native.Nat.{ℕ, ◌<◌}
use native.Mathlib.Omega.{arith}
use lib.Dec.{ltb}
use lib.ListN.{length, length-replicate}
use borrow.Author.Tests.{eqb-true, ltb-true, not-false}
use Rattle.plan.specs.declared.numbers.Plan.{Plan}
use Rattle.plan.specs.declared.admission.Own.TheVariants.{Store}
use Rattle.plan.specs.Causes.{first}
use Rattle.plan.specs.Numbers.{columns, product, Within}
use Rattle.plan.specs.Parts.{Given, store_size, Lent}
use Rattle.plan.proofs.Bounds.{modulus}
use Rattle.plan.proofs.Refusals.{none-met}
use Rattle.plan.proofs.Admitting.{unrefused}
use Rattle.store.specs.Elimination.{is_reduced, after, cells}
use Rattle.store.specs.Filings.{is_contradiction}
use Rattle.store.specs.Stages.{Ready}
use Rattle.store.specs.Calls.{equation, empty_store, outcome_of, file_own, file_causes, filed}
use Rattle.store.proofs.Bytes.{flat-length}
use Rattle.store.proofs.Filing.{stored-reduced}
use Rattle.store.proofs.Holding.{zeros-reduced}
use Rattle.store.proofs.StoreCalls.{ready_of}
use Rattle.store.proofs.EntryEquations.{equation-residues}

pub empty-ready : (P : Plan) → Within P → Ready P.p (columns P) (empty_store P)
empty-ready P within =
    record {
      modulus = modulus within;
      limit = within.column-limit;
      places = length-replicate (store_size (columns P)) 0;
      reduced = zeros-reduced P.p (columns P) within.prime;
    }

module _ (G : Given) (S : List ℕ) (i v : ℕ) where
  pub record Unmet : Type 0 where
    pub within : Within G.numbers
    pub lent : Lent G
    pub ready : Ready G.numbers.p (columns G.numbers) S
    pub near : i < product G.radices
    pub below : v < G.numbers.s
    pub kept : is_contradiction (outcome_of G S i v) ≡ false

  pub unmet : first (file_causes G S i v) ≡ 0 → Unmet
  unmet e =
      let P = G.numbers in
      let u = unrefused G (Store (length S)) (file_own S i v) e in
      let none = none-met (file_own S i v G) (omega arith) u.rest-none in
      record {
        within = u.within;
        lent = u.lent;
        ready = ready_of P S u.within (eqb-true (length S) (store_size (columns P)) u.own-fits)
            (not-false (is_reduced P.p (columns P) (cells (columns P) S)) none.0);
        near = ltb-true i (product G.radices) (not-false (ltb i (product G.radices)) none.1.0);
        below = ltb-true v P.s (not-false (ltb v P.s) none.1.1.0);
        kept = none.1.1.1.0;
      }

  pub filed-ready : Within G.numbers → Lent G → v < G.numbers.p → Ready G.numbers.p (columns G.numbers) S
      → Ready G.numbers.p (columns G.numbers) (filed G S i v)
  unfolding filed
  filed-ready within lent l ready =
      let P = G.numbers in
      record {
        modulus = ready.modulus;
        limit = ready.limit;
        places = flat-length (columns P) (after P.p (columns P) (cells (columns P) S) (equation G i v));
        reduced = stored-reduced P.p (columns P) within.prime S (equation G i v) ready.reduced (equation-residues G i v within lent l);
      }
