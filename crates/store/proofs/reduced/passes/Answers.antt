-- `store::reduced::passes` meets its contract: the local array begins as zeros, and the state after the last row is asked (`TakingRows`).
-- Assumes nothing.
use mathlib.Core.Bool.{not}
use mathlib.Core.Path.{◌≡◌, sym, ap, ◌∙◌}
use Prim.Native.Nat.{ℕ, ◌+◌, ◌-◌, ◌%◌}
use native.Mathlib.Omega.{arith}
use lib.ListN.{take, drop, replicate}
use lib.Seq.{length-take-le}
use borrow.Author.Tests.{not-true, not-false}
use Rattle.lists.proofs.Parts.{zeros-part}
use Rattle.store.proofs.TakingRows.{unsound-said, last-asked}
use Rattle.store.proofs.reduced.passes.Goals as goal

pub take_rows-requires : goal.take_rows-requires
take_rows-requires c =
    let C = c.args.c in
    let begin : ℕ = 15 - C % 16 in
    let width : begin + C + 1 - begin ≡ C + 1 = omega arith in record {
      c_bound = c.requires.c_bound;
      store_len = c.requires.store_len;
      tops_value = ap (λ (n : ℕ). take n (drop begin (replicate 1040 0))) width ∙ zeros-part 1040 begin (C + 1) (omega arith);
    }

pub returns-then-not-take_rows : goal.returns-then-not-take_rows
returns-then-not-take_rows c =
    let args = c.args in
    let rows = c.take_rows in
    unsound-said args.p args.c rows.result rows.new.tops _ rows.ensures.tops_after (not-true rows.result (ap not c.if-not-take_rows.true))

pub returns : goal.returns
returns c =
    let args = c.args in
    let rows = c.take_rows in
    let begin : ℕ = 15 - args.c % 16 in
    last-asked args.p args.c rows.result rows.new.tops _ rows.ensures.tops_after (take begin (replicate 1040 0)) _ _
    (ap (λ (n : ℕ). n + args.c) (sym (length-take-le begin (replicate 1040 0) (omega arith)))) rows.ensures.tops_len (not-false rows.result (ap not c.if-not-take_rows.false))
