-- `program::running::Registers::new` meets its contract: an array of zeros with the digits at its front (`Lists`). Assumes nothing.
use Rattle.program.proofs.Lists.{loaded}
use Rattle.program.proofs.running.Registers.new.Goals as goal

pub returns : goal.returns
returns c = loaded 69 c.args.digits.now _ c.copy_from_slice.ensures.after
