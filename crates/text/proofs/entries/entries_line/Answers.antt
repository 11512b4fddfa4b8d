-- `text::entries::entries_line` meets its contract: the filled parts of the buffers are lent, and the store is put back. Assumes nothing.
use Rattle.std.proofs.Common.{sym, arith}
use Rattle.std.proofs.lemmas.Result.{err_from_is_err_and}
use lib.Seq.{length-take-le}
use Rattle.text.specs.Progress.{read_of}
use Rattle.text.proofs.Entering.{store-small, entries-refuses, entries-reaches}
use Rattle.text.proofs.entries.entries_line.Goals as goal

pub slice_bounds-entry_line-end : goal.slice_bounds-entry_line-end
slice_bounds-entry_line-end c =
    omega (arith, (store-small _ _ _ c.columns.ensures c.requires.fits.planned.1 c.store_size-size.ensures).1, c.requires.in_bounds)

pub slice_bounds-entry_line-end-2 : goal.slice_bounds-entry_line-end-2
slice_bounds-entry_line-end-2 c =
    let sized = store-small _ _ _ c.columns.ensures c.requires.fits.planned.1 c.store_size-size.ensures in
    sym (length-take-le _ c.args.store.now (omega (arith, sized.1, c.requires.in_bounds)))

pub returns-in_err-entry_line-clause-judgement : goal.returns-in_err-entry_line-clause-judgement
returns-in_err-entry_line-clause-judgement c =
    let p = err_from_is_err_and c.from_residual.result c.from_residual.ensures.1 in
    let a = c.args in
    let sized = store-small _ _ _ c.columns.ensures c.requires.fits.planned.1 c.store_size-size.ensures in
    rw (p.1, p.2) (entries-refuses (read_of a.filled a.radices.now a.weights.now a.tables.now a.products.now) a.store.now _ _ sized.0 _ c.in_err-entry_line.ensures.refusal)

pub returns-clause-judgement : goal.returns-clause-judgement
returns-clause-judgement c =
    let a = c.args in
    let sized = store-small _ _ _ c.columns.ensures c.requires.fits.planned.1 c.store_size-size.ensures in
    let accepted = c.in_ok-entry_line.ensures in
    entries-reaches (read_of a.filled a.radices.now a.weights.now a.tables.now a.products.now) a.store.now _ _ sized.0 _ accepted.refusal (omega (arith, sized.1, c.requires.in_bounds)) accepted.store_after c.entry_line.auto.store
