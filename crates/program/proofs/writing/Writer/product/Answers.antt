-- `program::writing::Writer::product` meets its contract: two sums and the steps behind them (`Placement`). Assumes nothing.
use mathlib.Core.Path.{◌≡◌, sym, ap, subst}
use mathlib.Core.List.{List, ◌++◌}
use Prim.Native.Nat.{ℕ, ◌+◌, ◌-◌, ◌*◌, ◌≤◌}
use native.Mathlib.Omega.{arith}
use lib.ListN.{length, take, drop}
use Rattle.lists.proofs.Parts.{cut-length}
use Rattle.plan.specs.Numbers.{variables}
use Rattle.plan.proofs.Blocks.{block_room, row_room}
use Rattle.program.specs.Layout.{square_steps, product_steps}
use Rattle.program.specs.Placed.{Fits}
use Rattle.program.proofs.Placement.{sum_steps, product-split, room-front, wrote-fits, wrote-3, wrote_as}
use Rattle.program.proofs.writing.Writer.product.Goals as goal
use Rattle.program.proofs.writing.Writer.product.Goals.{After-variables-l}

begins : (c : After-variables-l) → c.args.i * c.variables-l.result ≡ c.args.i * variables c.args.source.now.plan
begins c = ap (λ (l : ℕ). c.args.i * l) c.variables-l.ensures

inside : (c : After-variables-l) → c.args.i * c.variables-l.result + c.variables-l.result ≤ c.args.source.now.plan.t * variables c.args.source.now.plan
inside c = block_room c.args.source.now.plan _ _ _ (begins c) c.variables-l.ensures c.requires.i_lt_t

fits-d : (c : After-variables-l) → c.args.i * c.variables-l.result + c.variables-l.result ≤ length c.args.source.now.d.now
fits-d c = rw c.args.source.now.d_len (inside c)

fits-beta : (c : After-variables-l) → c.args.i * c.variables-l.result + c.variables-l.result ≤ length c.args.source.now.beta.now
fits-beta c = rw c.args.source.now.beta_len (row_room c.args.source.now.plan _ _ (inside c))

short : (c : After-variables-l) (ws : List ℕ) → let l = c.variables-l.result in let begin = c.args.i * l in
    begin + l ≤ length ws → length (take (begin + l - begin) (drop begin ws)) ≤ 64
short c ws fits = omega (arith, cut-length ws _ c.variables-l.result fits, c.variables-l.ensures, c.args.source.now.within.variable-limit)

-- its three pieces
left : (c : After-variables-l) → List ℕ
left c = let l = c.variables-l.result in sum_steps l c.args.source.now.beta.now (c.args.i * l) l

right : (c : After-variables-l) → List ℕ
right c = let l = c.variables-l.result in sum_steps (l + 1) c.args.source.now.d.now (c.args.i * l) l

last : (c : After-variables-l) → List ℕ
last c = square_steps c.variables-l.result c.args.source.now.plan.m (c.args.source.now.plan.p - 1)

split : (c : After-variables-l) → left c ++ (right c ++ last c) ≡ product_steps c.args.source.now.plan c.args.source.now.d.now c.args.source.now.beta.now c.args.i
unfolding left right last
split c = product-split c.args.source.now.plan _ _ _ _ _ (fits-d c) (fits-beta c) (begins c) c.variables-l.ensures

room : (c : After-variables-l) → Fits c.args.self.now (left c ++ (right c ++ last c))
room c = subst (Fits c.args.self.now) (sym (split c)) c.requires.room

pub sum-requires : goal.sum-requires
unfolding left right last
sum-requires c =
    let r = (goal.at.sum-requires c).After-variables-l in record {
      weights_len_bound = short r _ (fits-beta r);
      room = room-front _ _ (left r) (right r ++ last r) (room r);
    }

pub slice_bounds-sum-end-2 : goal.slice_bounds-sum-end-2
slice_bounds-sum-end-2 c = fits-d (goal.at.slice_bounds-sum-end-2 c).After-variables-l

pub sum-requires-2 : goal.sum-requires-2
unfolding left right last
sum-requires-2 c =
    let r = (goal.at.sum-requires-2 c).After-variables-l in record {
      weights_len_bound = short r _ (fits-d r);
      room = room-front _ _ (right r) (last r) (wrote-fits (left r) (right r ++ last r) (room r) c.sum.ensures);
    }

pub squares-requires : goal.squares-requires
unfolding left right last
squares-requires c =
    let r = (goal.at.squares-requires c).After-variables-l in
    let limit = c.args.source.now.within.variable-limit in record {
      u_bound = (omega (arith, c.variables-l.ensures, limit), omega (arith, limit));
      room = wrote-fits (right r) (last r) (wrote-fits (left r) (right r ++ last r) (room r) c.sum.ensures) c.sum-2.ensures;
    }

pub returns : goal.returns
unfolding left right last
returns c =
    let r = (goal.at.returns c).After-variables-l in
    wrote_as (split r) (wrote-3 (left r) (right r) (last r) (room r) c.sum.ensures c.sum-2.ensures c.squares.ensures)
