-- `moves::reduced::is_reduced_full` meets its contract: the local array begins as zeros, the state after the last row is asked (`TakingRows` of
-- `store`), and that it says so is reduced form (`FullReading`). Assumes nothing.
use mathlib.Core.Path.{sym, ◌∙◌}
use mathlib.Core.List.{[]}
use Prim.Native.Nat.{◌+◌}
use native.Mathlib.Nat.{zero-add}
use native.Mathlib.Omega.{arith}
use Rattle.lists.proofs.Parts.{zeros-front}
use Rattle.store.proofs.TakingRows.{unsound-said, last-asked}
use Rattle.moves.proofs.FullReading.{reduced-exactly}
use Rattle.moves.proofs.reduced.is_reduced_full.Goals as goal

pub take_full_rows-requires : goal.take_full_rows-requires
take_full_rows-requires c =
    record {
      c_bound = c.requires.c_bound;
      full_len = c.requires.full_len;
      tops_value = zeros-front 1032 (c.args.c + 1) (omega arith);
    }

pub returns-else-take_full_rows : goal.returns-else-take_full_rows
returns-else-take_full_rows c =
    let rows = c.take_full_rows in
    c.if-take_full_rows.false
    ∙ unsound-said c.args.p c.args.c rows.result rows.new.tops _ rows.ensures.tops_after c.if-take_full_rows.false
    ∙ reduced-exactly c.args.c c.args.full.now c.args.p c.requires.modulus.0 c.requires.full_len

pub returns-then-take_full_rows : goal.returns-then-take_full_rows
returns-then-take_full_rows c =
    let rows = c.take_full_rows in
    last-asked c.args.p c.args.c rows.result rows.new.tops _ rows.ensures.tops_after [] _ _ (sym (zero-add c.args.c)) rows.ensures.tops_len c.if-take_full_rows.true
    ∙ reduced-exactly c.args.c c.args.full.now c.args.p c.requires.modulus.0 c.requires.full_len
