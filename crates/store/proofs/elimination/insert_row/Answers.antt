-- `store::elimination::insert_row` meets its contract: the pivot is the local array's front, the residual made normal; it clears its column
-- from the rows above, and is written as row k (`Clearing`). Assumes nothing.
use mathlib.Core.Path.{sym, ap, subst⁻¹, ◌∙◌}
use mathlib.Core.List.{List}
use Prim.Native.Nat.{ℕ, ◌+◌, ◌≤◌, ◌<◌}
use native.Mathlib.Nat.{le_refl, le_of_lt, mod-lt}
use native.Mathlib.Omega.{arith}
use lib.Seq.{length-take-le}
use Rattle.lists.specs.Places.{at}
use Rattle.field.specs.Residues.{inverse}
use Rattle.store.specs.Elimination.{normal}
use Rattle.store.specs.Stages.{Line}
use Rattle.store.proofs.Residuals.{normal-small}
use Rattle.store.proofs.Fronts.{front-list, front-room, front_cut, front-residues}
use Rattle.store.proofs.Pasting.{row_fits, tail-length}
use Rattle.store.proofs.Clearing.{row-cleared, pivot-line, pivot-at, pivot-before, row-inserted}
use Rattle.store.proofs.elimination.insert_row.Goals as goal

pub set_multiple-requires : goal.set_multiple-requires
unfolding inverse
set_multiple-requires c =
    let positive : 0 < c.args.p = omega (arith, c.requires.ready.modulus.0) in
    let factor : c.inverse-g.result ≤ c.args.p = rw c.inverse-g.ensures (le_of_lt (mod-lt _ positive)) in
    let line = c.requires.line in record {
      modulus = c.requires.ready.modulus;
      ys_len = line.places ∙ sym (length-take-le (c.args.c + 1) _ (omega arith));
      residues = line.residues;
      g_le_p = factor;
    }

pub clear_above-begin-requires : goal.clear_above-begin-requires
clear_above-begin-requires c =
    let positive : 0 < c.args.p = omega (arith, c.requires.ready.modulus.0) in
    let line = pivot-line _ c.requires.line positive c.set_multiple.ensures in
    let column = c.requires.k_lt_c in
    let e = front-list _ c.set_multiple.new.out _ line.places in
    let before = pivot-before _ c.requires.line positive c.set_multiple.ensures _ (le_of_lt column) c.requires.by_index in record {
      ready = c.requires.ready;
      line = subst⁻¹ (Line c.args.p c.args.c) e line;
      k_lt_c = column;
      by_index = λ j l. ap (λ (xs : List ℕ). at xs j) e ∙ before j l;
    }

pub overflow_add-a : goal.overflow_add-a
overflow_add-a c =
    let row = row-cleared _ c.requires.k_lt_c c.clear_above-begin.ensures.value c.clear_above-begin.ensures.store_after in
    omega (arith, row_fits row)

pub overflow_add-end : goal.overflow_add-end
overflow_add-end c =
    let row = row-cleared _ c.requires.k_lt_c c.clear_above-begin.ensures.value c.clear_above-begin.ensures.store_after in
    omega (arith, row_fits row)

pub slice_bounds-set_multiple-end-2 : goal.slice_bounds-set_multiple-end-2
slice_bounds-set_multiple-end-2 c =
    let row = row-cleared _ c.requires.k_lt_c c.clear_above-begin.ensures.value c.clear_above-begin.ensures.store_after in
    row_fits row

pub set_multiple-requires-2 : goal.set_multiple-requires-2
set_multiple-requires-2 c =
    let positive : 0 < c.args.p = omega (arith, c.requires.ready.modulus.0) in
    let line = pivot-line _ c.requires.line positive c.set_multiple.ensures in
    let row = row-cleared _ c.requires.k_lt_c c.clear_above-begin.ensures.value c.clear_above-begin.ensures.store_after in
    let column = le_of_lt c.requires.k_lt_c in record {
      modulus = c.requires.ready.modulus;
      ys_len = front_cut line _ column ∙ sym (tail-length row (le_refl _) column);
      residues = front-residues line _ column positive;
      g_le_p = positive;
    }

pub returns : goal.returns
returns c =
    let positive : 0 < c.args.p = omega (arith, c.requires.ready.modulus.0) in
    let line = pivot-line _ c.requires.line positive c.set_multiple.ensures in
    let k = c.args.k in
    let normal-places = pivot-at _ c.requires.line positive c.set_multiple.ensures k c.inverse-g.ensures in
    row-inserted _ _ _ (normal c.args.p (at c.args.res.now) k) k c.requires.ready.reduced c.requires.k_lt_c
    (λ j. normal-small c.args.p (at c.args.res.now) k j positive)
    _ _ _ _ c.clear_above-begin.ensures.value (front-room _ c.set_multiple.new.out _ line.places)
    (λ j b. ap (λ (xs : List ℕ). at xs j) (front-list _ c.set_multiple.new.out _ line.places) ∙ normal-places j b)
    c.clear_above-begin.ensures.store_after c.set_multiple-2.ensures
