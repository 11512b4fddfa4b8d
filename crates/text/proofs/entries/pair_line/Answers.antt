-- `text::entries::pair_line` meets its contract. Assumes nothing.
use Rattle.std.proofs.Common.{sym, arith}
use lib.Seq.{length-take-le}
use Rattle.text.specs.Progress.{read_of}
use Rattle.text.proofs.Entering.{store-small, pair-thirteen, pair-passed, unlike, alike}
use Rattle.text.proofs.entries.pair_line.Goals as goal

pub returns-then-ne-clause-judgement : goal.returns-then-ne-clause-judgement
returns-then-ne-clause-judgement c = λ R w T d. pair-thirteen (read_of c.args.filled R w T d) _ (unlike _ _ _ c.as_slice.ensures c.if-ne.ensures)

pub slice_bounds-fill-end : goal.slice_bounds-fill-end
slice_bounds-fill-end c =
    omega (arith, (store-small _ _ _ c.columns.ensures c.requires.fits.planned.1 c.store_size-size.ensures).1, c.requires.in_bounds)

pub slice_bounds-fill-end-2 : goal.slice_bounds-fill-end-2
slice_bounds-fill-end-2 c =
    let sized = store-small _ _ _ c.columns.ensures c.requires.fits.planned.1 c.store_size-size.ensures in
    sym (length-take-le _ c.args.store.now (omega (arith, sized.1, c.requires.in_bounds)))

pub returns-clause-judgement : goal.returns-clause-judgement
returns-clause-judgement c =
    let sized = store-small _ _ _ c.columns.ensures c.requires.fits.planned.1 c.store_size-size.ensures in
    λ R w T d. pair-passed (read_of c.args.filled R w T d) c.args.line.now c.args.store.now _ _ (alike _ _ _ c.as_slice.ensures c.if-ne.ensures) sized.0 (omega (arith, sized.1, c.requires.in_bounds)) (c.fill.ensures.after (λ y e. e))
