-- `text::stages::table_line` meets its contract. Assumes nothing.
use Rattle.std.proofs.Common.{ap, ◌∙◌, arith}
use Rattle.std.proofs.lemmas.Result.{err_from_is_err_and}
use Rattle.plan.proofs.Bounds.{prime-high}
use Rattle.text.specs.Meaning.{next, judged}
use Rattle.text.proofs.Judging.{stops, table-reaches}
use Rattle.text.proofs.stages.table_line.Goals as goal

pub part_line-requires : goal.part_line-requires
part_line-requires c =
    let high = prime-high c.requires.fits.1.planned.0 in
    (omega (arith, c.requires, high), omega (arith, high))

pub returns-in_err-part_line-clause-judgement : goal.returns-in_err-part_line-clause-judgement
unfolding judged
returns-in_err-part_line-clause-judgement c =
    let p = err_from_is_err_and c.from_residual.result c.from_residual.ensures.1 in
    λ R w d S. rw (p.1, p.2) (stops _ _ _ c.in_err-part_line.ensures.refusal)

pub after_links-requires-clause-filled_to : goal.after_links-requires-clause-filled_to
after_links-requires-clause-filled_to c =
    let f = c.requires.fits.1 in record {
      planned = f.planned;
      weights = f.weights;
      tables = omega (arith, f.tables, prime-high f.planned.0);
      products = f.products;
    }

pub returns-clause-judgement : goal.returns-clause-judgement
returns-clause-judgement c =
    let accepted = c.in_ok-part_line.ensures in
    λ R w d S. ap next (c.after_links.ensures.place R w _ d S)
    ∙ table-reaches c.args.filled c.args.k R w _ d _ _ accepted.refusal (omega (arith, c.requires, prime-high c.requires.fits.1.planned.0)) accepted.buffer_after
