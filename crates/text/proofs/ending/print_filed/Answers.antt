-- `text::ending::print_filed` meets its contract: the coefficients are read off into a local array. Assumes nothing.
use Rattle.text.proofs.Finishing.{read-residues}
use Rattle.text.proofs.ending.print_filed.Goals as goal

pub print_program-requires : goal.print_program-requires
print_program-requires c = record {
  beta_len = read-residues c.args.plan.now.numbers c.args.store.now _ _ _ c.columns-c.ensures c.read_off.ensures c.args.plan.now.within c.requires.ready;
}
