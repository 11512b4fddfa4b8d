-- `program::calls::write` meets its contract: what `write_into` has written is handed back up to its end. Assumes nothing.
use mathlib.Core.Path.{refl}
use native.Mathlib.Omega.{arith}
use Rattle.program.proofs.Answers.{handed-part, handed-length}
use Rattle.program.proofs.calls.write.Goals as goal

pub slice_bounds-result-end : goal.slice_bounds-result-end
slice_bounds-result-end c =
    let w = c.write_into.ensures in
    handed-length _ _ _ _ _ _ _ _ _ c.unwrap_or-end.ensures (omega arith) w.length w.steps_after

pub returns-clause-result_value : goal.returns-clause-result_value
returns-clause-result_value c =
    let w = c.write_into.ensures in
    handed-part _ _ _ _ _ _ _ _ _ _ c.unwrap_or-end.ensures refl w.refusal w.length w.steps_after
