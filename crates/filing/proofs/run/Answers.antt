-- `filing::run` meets its contract: where the end of the input was reached, what `finish` prints is the meaning of the bytes that were fed.
use Rattle.std.proofs.Common.{◌∙◌, ap}
use Rattle.std.specs.Result.{result_from_control_flow}
use Rattle.filing.proofs.Chunks.{fed-sound, printed-ended, printed-stopped, known}
use Rattle.filing.proofs.run.Goals as goal

pub print_end-requires : goal.print_end-requires
print_end-requires g c = record { sound_state = fed-sound c.read_all-read.ensures.fed }

pub returns-clause-printed : goal.returns-clause-printed
returns-clause-printed g c =
    let reads = c.read_all-read.ensures in
    let ended = c.branch-read.ensures ∙ ap result_from_control_flow c.in_ok-read.is in
    printed-ended reads.fed ended reads.ended c.print_end.ensures.out_after c.print_end.result c.print_end.ensures.written c.map_err.result c.map_err.ensures.cases

pub returns-clause-known : goal.returns-clause-known
returns-clause-known g c =
    let reads = c.read_all-read.ensures in
    let end = c.branch-read.ensures ∙ ap result_from_control_flow c.in_ok-read.is in
    known _ _ c.map_err.result (printed-ended reads.fed end reads.ended c.print_end.ensures.out_after c.print_end.result c.print_end.ensures.written c.map_err.result c.map_err.ensures.cases)

pub returns-in_err-read-clause-printed : goal.returns-in_err-read-clause-printed
returns-in_err-read-clause-printed g c =
    let reads = c.read_all-read.ensures in
    let stopped = c.branch-read.ensures ∙ ap result_from_control_flow c.in_err-read.is in
    printed-stopped reads.fed stopped reads.ended c.from_residual.result c.from_residual.ensures.1

pub returns-in_err-read-clause-known : goal.returns-in_err-read-clause-known
returns-in_err-read-clause-known g c =
    let reads = c.read_all-read.ensures in
    let stop = c.branch-read.ensures ∙ ap result_from_control_flow c.in_err-read.is in
    known _ _ c.from_residual.result (printed-stopped reads.fed {out = c.args.room.now.out.now} stop reads.ended c.from_residual.result c.from_residual.ensures.1)
