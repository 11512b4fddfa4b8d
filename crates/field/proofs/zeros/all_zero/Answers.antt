use mathlib.Core.Bool.{true}
use mathlib.Core.Path.{◌≡◌, refl, sym, ◌∙◌}
use Prim.Native.Nat.{ℕ, ◌+◌}
use native.Mathlib.Omega.{arith}
use lib.Dec.{eqb}
use lib.ListN.{take}
use mathlib.Core.List.{List}
use borrow.Author.Tests.{eq-eqb, ne_eqb}
use borrow.Author.Rules.{rules}
use Rattle.lists.specs.Places.{every}
use Rattle.field.specs.Rows.{all_below}
use Rattle.field.proofs.ZeroBytes.{cut, joined, ends, front-none}
use Rattle.field.proofs.zeros.all_zero.Goals as goal

-- the bytes so far and the piece behind them
joined-on : (xs : List ℕ) (j r : ℕ) → all_below 1 (take j xs) ≡ true → eqb r 0 ≡ all_below 1 (cut j 64 xs) → eqb r 0 ≡ all_below 1 (take (j + 64) xs)
joined-on xs j r so_far piece = joined 0 r r xs refl j 64 (sym so_far) piece

pub short_zero-requires : goal.short_zero-requires
short_zero-requires c = search rules

pub returns-then-xs-lt64 : goal.returns-then-xs-lt64
returns-then-xs-lt64 c = c.short_zero.ensures

pub overflow_sub-last : goal.overflow_sub-last
overflow_sub-last c = search rules

pub loop-j-init : goal.loop-j-init
unfolding every
loop-j-init c = (omega arith, refl)

pub slice_bounds-any_64-count : goal.slice_bounds-any_64-count
slice_bounds-any_64-count c = search rules

pub slice_bounds-any_64-start : goal.slice_bounds-any_64-start
slice_bounds-any_64-start c = search rules

pub slice_bounds-any_64-end : goal.slice_bounds-any_64-end
slice_bounds-any_64-end c = search rules

pub any_64-requires : goal.any_64-requires
any_64-requires c = search rules

pub returns-then-any_64-ne0 : goal.returns-then-any_64-ne0
returns-then-any_64-ne0 c =
    let xs = c.args.xs.now in
    sym (front-none (c.loop-j.j + 64) xs (sym (joined-on c.args.xs.now c.loop-j.j c.any_64.result c.loop-j.invariant.1 c.any_64.ensures) ∙ ne_eqb c.any_64.result 0 c.if-any_64-ne0.true))

pub overflow_add-j : goal.overflow_add-j
overflow_add-j c = search rules

pub loop-j-smaller : goal.loop-j-smaller
loop-j-smaller c = search rules

pub loop-j-preserved : goal.loop-j-preserved
loop-j-preserved c = (omega arith, sym (joined-on c.args.xs.now c.loop-j.j c.any_64.result c.loop-j.invariant.1 c.any_64.ensures) ∙ eq-eqb c.any_64.result 0 c.if-any_64-ne0.false)

pub slice_bounds-any_64-count-2 : goal.slice_bounds-any_64-count-2
slice_bounds-any_64-count-2 c = search rules

pub slice_bounds-any_64-start-2 : goal.slice_bounds-any_64-start-2
slice_bounds-any_64-start-2 c = search rules

pub slice_bounds-any_64-end-2 : goal.slice_bounds-any_64-end-2
slice_bounds-any_64-end-2 c = search rules

pub any_64-requires-2 : goal.any_64-requires-2
any_64-requires-2 c = search rules

pub returns : goal.returns
returns c =
    let loop = c.loop-j in
    let xs = c.args.xs.now in
    ends 0 c.any_64-2.result c.any_64-2.result xs refl loop.j 64 loop.invariant.0 (omega arith) (omega arith) (sym loop.invariant.1) c.any_64-2.ensures
