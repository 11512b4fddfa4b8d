use mathlib.Core.Path.{sym, ◌∙◌}
use Prim.Native.Nat.{ℕ, ◌+◌, ◌-◌, ◌<◌}
use native.Mathlib.Nat.{le_of_lt}
use native.Mathlib.Omega.{arith}
use Rattle.lists.proofs.Parts.{part-each}
use Rattle.store.proofs.Pasting.{row_fits, tail-length}
use Rattle.store.proofs.Clearing.{cleared-none, cleared-next, cleared-all, cleared-start, clears-at, cleared-residues, cut-length}
use Rattle.store.proofs.elimination.clear_above.Goals as goal

pub loop-r-init : goal.loop-r-init
loop-r-init c = cleared-none _ _ _ _ _ c.requires.ready.places

pub overflow_add-a : goal.overflow_add-a
overflow_add-a c =
    omega (arith, row_fits (clears-at c.requires.ready.reduced c.requires.line c.requires.k_lt_c c.loop-r.invariant c.loop-r-test.true))

pub overflow_add-end : goal.overflow_add-end
overflow_add-end c =
    omega (arith, row_fits (clears-at c.requires.ready.reduced c.requires.line c.requires.k_lt_c c.loop-r.invariant c.loop-r-test.true))

pub slice_bounds-clear_row-end : goal.slice_bounds-clear_row-end
slice_bounds-clear_row-end c =
    row_fits (clears-at c.requires.ready.reduced c.requires.line c.requires.k_lt_c c.loop-r.invariant c.loop-r-test.true)

pub clear_row-requires : goal.clear_row-requires
clear_row-requires c =
    let row = clears-at c.requires.ready.reduced c.requires.line c.requires.k_lt_c c.loop-r.invariant c.loop-r-test.true in
    let pos : 0 < c.args.p = omega (arith, c.requires.ready.modulus.0) in
    let tail = tail-length row (le_of_lt c.loop-r-test.true) (le_of_lt c.requires.k_lt_c) in record {
      modulus = c.requires.ready.modulus;
      pivot_len = (cut-length c.requires.ready.reduced c.requires.line c.requires.k_lt_c ∙ sym tail, omega (arith, tail));
      residues = (
        cleared-residues c.requires.ready.reduced c.requires.line c.requires.k_lt_c c.loop-r.invariant c.loop-r-test.true pos,
        part-each (λ (x : ℕ). x < c.args.p) c.args.pivot.now c.args.k (c.args.c + 1 - c.args.k) pos c.requires.line.residues,
      );
    }

pub loop-r-preserved : goal.loop-r-preserved
loop-r-preserved c =
    let pre = c.requires in
    cleared-next pre.ready.reduced pre.line pre.k_lt_c c.loop-r.invariant c.loop-r-test.true pre.by_index _ c.clear_row.ensures

pub returns : goal.returns
returns c = record {
  value = cleared-start c.loop-r.invariant c.loop-r-test.false;
  store_after = cleared-all c.loop-r.invariant c.loop-r-test.false;
}
