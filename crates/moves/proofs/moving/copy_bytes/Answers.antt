use Rattle.std.proofs.Common.{refl, sym, ◌∙◌}
use Rattle.lists.proofs.Overwrite.{written_none, written_next, written_all}
use Rattle.lists.proofs.Tabs.{is-tab}
use Rattle.moves.proofs.moving.copy_bytes.Goals as goal

pub loop-j-init : goal.loop-j-init
loop-j-init c = written_none _ _ _ c.requires

pub loop-j-preserved : goal.loop-j-preserved
loop-j-preserved c = written_next _ c.loop-j.invariant c.loop-j-test.true refl

pub returns : goal.returns
returns c = written_all c.loop-j.invariant c.loop-j-test.false ∙ sym (is-tab _ _ _ 0 refl (λ i l. refl))
