-- `program::writing::Writer::link` meets its contract: a sum over link k's weights and a bootstrap (`Placement`). Assumes nothing.
use mathlib.Core.Path.{◌≡◌, sym, subst}
use mathlib.Core.List.{List, ◌++◌}
use Prim.Native.Nat.{ℕ, ◌+◌, ◌≤◌}
use native.Mathlib.Omega.{arith}
use lib.ListN.{length}
use Rattle.lists.proofs.Parts.{cut-length}
use Rattle.plan.proofs.Chains.{link-room}
use Rattle.program.specs.Layout.{boot, link_steps}
use Rattle.program.specs.Placed.{Fits}
use Rattle.program.proofs.Placement.{sum_steps, link-split, room-front, wrote-fits, wrote_then, wrote_as}
use Rattle.program.proofs.writing.Writer.link.Goals as goal
use Rattle.program.proofs.writing.Writer.link.Goals.{Start}

fits : (c : Start) → c.args.start + (c.args.source.now.plan.n + c.args.k) ≤ length c.args.source.now.weights.now
fits c = link-room c.args.source.now.plan c.args.source.now.weights.now _ _ c.args.source.now.weights_len c.requires.start_value.0 c.requires.start_value.1

-- its two pieces
total : (c : Start) → List ℕ
total c = sum_steps (c.args.source.now.plan.n + c.args.k) c.args.source.now.weights.now c.args.start (c.args.source.now.plan.n + c.args.k)

last : (c : Start) → List ℕ
last c = boot (c.args.source.now.plan.n + c.args.k) c.args.k

split : (c : Start) → total c ++ last c ≡ link_steps c.args.source.now.plan c.args.source.now.weights.now c.args.k
unfolding total last
split c = link-split c.args.source.now.plan _ _ _ (fits c) c.requires.start_value.0

room : (c : Start) → Fits c.args.self.now (total c ++ last c)
room c = subst (Fits c.args.self.now) (sym (split c)) c.requires.room

pub overflow_add-end : goal.overflow_add-end
overflow_add-end c = omega (arith, fits (goal.at.overflow_add-end c).Start)

pub slice_bounds-sum-end : goal.slice_bounds-sum-end
slice_bounds-sum-end c = fits (goal.at.slice_bounds-sum-end c).Start

pub sum-requires : goal.sum-requires
unfolding total last
sum-requires c =
    let start = (goal.at.sum-requires c).Start in
    let size = cut-length c.args.source.now.weights.now c.args.start (c.args.source.now.plan.n + c.args.k) (fits start) in
    record {
      weights_len_bound = omega (arith, size, c.args.source.now.within.variable-limit, c.requires.start_value.1);
      room = room-front _ _ (total start) (last start) (room start);
    }

pub boot-requires : goal.boot-requires
unfolding total last
boot-requires c =
    let start = (goal.at.boot-requires c).Start in
    wrote-fits (total start) (last start) (room start) c.sum.ensures

pub returns : goal.returns
unfolding total last
returns c =
    let start = (goal.at.returns c).Start in
    wrote_as (split start) (wrote_then (total start) (last start) (room start) c.sum.ensures c.boot.ensures)
