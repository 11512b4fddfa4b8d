-- `text::ending::finish` meets its contract, by the stage and whether bytes are held. Assumes nothing.
use Rattle.std.proofs.Common.{refl, sym, arith}
use lib.Seq.{length-take-le}
use Rattle.text.proofs.Entering.{store-small}
use Rattle.text.proofs.Finishing.{finish-stopped, finish-broken, finish-early, finish-filed, entries-fit, filed-sound}
use Rattle.text.proofs.ending.finish.Goals as goal

pub returns-in-Err-clause-out_after : goal.returns-in-Err-clause-out_after
returns-in-Err-clause-out_after c = rw (sym (finish-stopped c.args.state c.args.buffers.now _ _ c.in-Err.is c.number.ensures)) c.print_refusal.ensures.out_after

pub returns-in-Err-clause-value : goal.returns-in-Err-clause-value
returns-in-Err-clause-value c = rw (sym (finish-stopped c.args.state c.args.buffers.now _ _ c.in-Err.is c.number.ensures)) c.print_refusal.ensures.value

pub returns-then-state-ne0-clause-out_after : goal.returns-then-state-ne0-clause-out_after
returns-then-state-ne0-clause-out_after c =
    rw (sym (finish-broken c.args.state c.args.buffers.now _ _ c.in-Ok.is c.if-state-ne0.true c.number-then-state-ne0.ensures)) c.print_refusal-then-state-ne0.ensures.out_after

pub returns-then-state-ne0-clause-value : goal.returns-then-state-ne0-clause-value
returns-then-state-ne0-clause-value c =
    rw (sym (finish-broken c.args.state c.args.buffers.now _ _ c.in-Ok.is c.if-state-ne0.true c.number-then-state-ne0.ensures)) c.print_refusal-then-state-ne0.ensures.value

pub returns-in_default-clause-out_after : goal.returns-in_default-clause-out_after
returns-in_default-clause-out_after c =
    rw (sym (finish-early c.args.state c.args.buffers.now _ c.in-Ok.is c.if-state-ne0.false _ c.in_default.not-Entries c.number-in_default.ensures)) c.print_refusal-in_default.ensures.out_after

pub returns-in_default-clause-value : goal.returns-in_default-clause-value
returns-in_default-clause-value c =
    rw (sym (finish-early c.args.state c.args.buffers.now _ c.in-Ok.is c.if-state-ne0.false _ c.in_default.not-Entries c.number-in_default.ensures)) c.print_refusal-in_default.ensures.value

pub invariant_of-plan : goal.invariant_of-plan
invariant_of-plan c = record {
  within = (entries-fit c.args.state c.args.buffers.now _ _ c.in-Ok.is c.in-Entries.is).planned.0;
  lent = (filed-sound c.args.state c.args.buffers.now _ _ _ c.in-Ok.is c.in-Entries.is refl c.requires.sound_state).0;
}

pub slice_bounds-print_filed-end : goal.slice_bounds-print_filed-end
slice_bounds-print_filed-end c =
    let fits = entries-fit c.args.state c.args.buffers.now _ _ c.in-Ok.is c.in-Entries.is in
    let sized = store-small _ _ _ c.columns.ensures fits.planned.1 c.store_size-size.ensures in
    sym (length-take-le _ _ (omega (arith, sized.1, c.args.buffers.now.store_room)))

pub print_filed-requires : goal.print_filed-requires
print_filed-requires c =
    let fits = entries-fit c.args.state c.args.buffers.now _ _ c.in-Ok.is c.in-Entries.is in
    let sized = store-small _ _ _ c.columns.ensures fits.planned.1 c.store_size-size.ensures in
    record { ready = (filed-sound c.args.state c.args.buffers.now _ _ _ c.in-Ok.is c.in-Entries.is sized.0 c.requires.sound_state).1 }

pub returns-clause-out_after : goal.returns-clause-out_after
returns-clause-out_after c =
    let fits = entries-fit c.args.state c.args.buffers.now _ _ c.in-Ok.is c.in-Entries.is in
    let sized = store-small _ _ _ c.columns.ensures fits.planned.1 c.store_size-size.ensures in
    rw (sym (finish-filed c.args.state c.args.buffers.now _ c.in-Ok.is c.if-state-ne0.false _ _ c.in-Entries.is sized.0)) c.print_filed.ensures.out_after

pub returns-clause-value : goal.returns-clause-value
returns-clause-value c =
    let fits = entries-fit c.args.state c.args.buffers.now _ _ c.in-Ok.is c.in-Entries.is in
    let sized = store-small _ _ _ c.columns.ensures fits.planned.1 c.store_size-size.ensures in
    rw (sym (finish-filed c.args.state c.args.buffers.now _ c.in-Ok.is c.if-state-ne0.false _ _ c.in-Entries.is sized.0)) c.print_filed.ensures.value
