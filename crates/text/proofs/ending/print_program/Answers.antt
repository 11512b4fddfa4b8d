-- `text::ending::print_program` meets its contract: the program is written at the front of the lent slice, then printed. Assumes nothing.
use Rattle.std.proofs.Common.{sym, arith}
use lib.Seq.{length-take-le}
use Rattle.program.specs.Layout.{layout}
use Rattle.program.proofs.Fronts.{program-room, program-fits, program-written, program-length}
use Rattle.text.proofs.ending.print_program.Goals as goal

pub overflow_mul-end : goal.overflow_mul-end
overflow_mul-end c = omega (arith, (program-room _ _ c.args.plan.now.within c.step_count-end.ensures).0)

pub slice_bounds-put_program-end : goal.slice_bounds-put_program-end
slice_bounds-put_program-end c = program-fits _ _ c.args.plan.now.within c.step_count-end.ensures c.args.room.now.steps_room

pub slice_bounds-put_program-end-2 : goal.slice_bounds-put_program-end-2
slice_bounds-put_program-end-2 c = sym (length-take-le _ _ (program-fits _ _ c.args.plan.now.within c.step_count-end.ensures c.args.room.now.steps_room))

pub put_program-requires-clause-room : goal.put_program-requires-clause-room
put_program-requires-clause-room c =
    let filled = (program-room _ _ c.args.plan.now.within c.step_count-end.ensures).1 c.args.plan.now.weights.now c.args.plan.now.products.now c.args.beta.now in
    let part = length-take-le _ c.args.room.now.steps.now (program-fits _ _ c.args.plan.now.within c.step_count-end.ensures c.args.room.now.steps_room) in
    omega (arith, filled, part)

pub slice_bounds-print_listing-end : goal.slice_bounds-print_listing-end
slice_bounds-print_listing-end c =
    let Q = c.args.plan.now in
    let fits = program-fits _ _ Q.within c.step_count-end.ensures c.args.room.now.steps_room in
    let filled = (program-room _ _ Q.within c.step_count-end.ensures).1 Q.weights.now Q.products.now c.args.beta.now in
    program-length _ _ (layout Q.numbers Q.weights.now Q.products.now c.args.beta.now) _ fits filled c.put_program.ensures

pub print_listing-requires-clause-steps_value : goal.print_listing-requires-clause-steps_value
print_listing-requires-clause-steps_value c =
    let Q = c.args.plan.now in
    let fits = program-fits _ _ Q.within c.step_count-end.ensures c.args.room.now.steps_room in
    let filled = (program-room _ _ Q.within c.step_count-end.ensures).1 Q.weights.now Q.products.now c.args.beta.now in
    program-written _ _ (layout Q.numbers Q.weights.now Q.products.now c.args.beta.now) _ fits filled c.put_program.ensures
