-- `program::writing::put_program` meets its contract: the links, a step, the products and the last sum (`Placement`). Assumes nothing.
use mathlib.Core.Path.{◌≡◌, sym, ap, subst, ◌∙◌}
use mathlib.Core.List.{List, ◌++◌}
use Prim.Native.Nat.{ℕ, ◌+◌, ◌-◌, ◌*◌, ◌≤◌}
use native.Mathlib.Nat.{le_of_eq}
use native.Mathlib.Omega.{arith}
use Rattle.std.proofs.Common.{rules}
use lib.ListN.{length, take, drop}
use Rattle.lists.specs.Places.{joined, at}
use Rattle.lists.proofs.Parts.{cut-length}
use Rattle.plan.specs.Numbers.{variables, columns}
use Rattle.plan.proofs.Blocks.{last-room}
use Rattle.program.specs.Layout.{clear, adds, link_steps, product_steps, layout}
use Rattle.program.specs.Placed.{Room}
use Rattle.program.proofs.Placement.{layout-split, room-front, wrote-fits, wrote-4, wrote_as}
use Rattle.program.proofs.writing.put_program.Goals as goal
use Rattle.program.proofs.writing.put_program.Goals.{After-variables-l}

begins : (c : After-variables-l) → c.args.plan.t * c.variables-l.result ≡ c.args.plan.t * variables c.args.plan
begins c = ap (λ (l : ℕ). c.args.plan.t * l) c.variables-l.ensures

ends : (c : After-variables-l) → c.args.plan.t * c.variables-l.result + c.variables-l.result ≡ columns c.args.plan
ends c = last-room c.args.plan _ _ (begins c) c.variables-l.ensures

fits : (c : After-variables-l) → c.args.plan.t * c.variables-l.result + c.variables-l.result ≤ length c.args.beta.now
fits c = le_of_eq (ends c ∙ sym c.requires.d_len.1)

-- its four pieces
links : (c : After-variables-l) → List ℕ
links c = joined (link_steps c.args.plan c.args.weights.now) c.args.plan.m

cleared : (c : After-variables-l) → List ℕ
cleared c = clear (c.variables-l.result + 4)

products : (c : After-variables-l) → List ℕ
products c = joined (product_steps c.args.plan c.args.d.now c.args.beta.now) c.args.plan.t

last : (c : After-variables-l) → List ℕ
last c =
    let l = c.variables-l.result in
    let begin = c.args.plan.t * l in
    let row = take (begin + l - begin) (drop begin c.args.beta.now) in
    adds (l + 4) (at row) (length row)

split : (c : After-variables-l) → links c ++ (cleared c ++ (products c ++ last c)) ≡ layout c.args.plan c.args.weights.now c.args.d.now c.args.beta.now
unfolding links cleared products last
split c = layout-split c.args.plan _ _ _ _ _ (fits c) (begins c) c.variables-l.ensures

room : (c : After-variables-l) → Room c.args.out.now 0 (links c ++ (cleared c ++ (products c ++ last c)))
room c = subst (Room c.args.out.now 0) (sym (split c)) c.requires.room

pub links-requires : goal.links-requires
unfolding links cleared products last
links-requires c =
    let r = (goal.at.links-requires c).After-variables-l in
    room-front _ _ (links r) (cleared r ++ (products r ++ last r)) (room r)

pub clear-requires : goal.clear-requires
unfolding links cleared products last
clear-requires c =
    let r = (goal.at.clear-requires c).After-variables-l in
    room-front _ _ (cleared r) (products r ++ last r) (wrote-fits (links r) (cleared r ++ (products r ++ last r)) (room r) c.links.ensures)

pub products-requires : goal.products-requires
unfolding links cleared products last
products-requires c =
    let r = (goal.at.products-requires c).After-variables-l in
    let behind = wrote-fits (links r) (cleared r ++ (products r ++ last r)) (room r) c.links.ensures in
    room-front _ _ (products r) (last r) (wrote-fits (cleared r) (products r ++ last r) behind c.clear.ensures)

pub adds-requires : goal.adds-requires
unfolding links cleared products last
adds-requires c =
    let r = (goal.at.adds-requires c).After-variables-l in
    let behind = wrote-fits (links r) (cleared r ++ (products r ++ last r)) (room r) c.links.ensures in
    record {
      weights_len_bound = omega (arith, cut-length c.args.beta.now _ c.variables-l.result (fits r), c.variables-l.ensures, c.requires.within.variable-limit);
      room = wrote-fits (products r) (last r) (wrote-fits (cleared r) (products r ++ last r) behind c.clear.ensures) c.products.ensures;
    }

pub returns : goal.returns
unfolding links cleared products last
returns c =
    let r = (goal.at.returns c).After-variables-l in
    let whole = wrote_as (split r) (wrote-4 (links r) (cleared r) (products r) (last r) (room r) c.links.ensures c.clear.ensures c.products.ensures c.adds.ensures) in
    let list = whole.list in
    let same = whole.same in
    search (rules, list, same)
