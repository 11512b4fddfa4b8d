use Rattle.std.proofs.Common.{refl, sym, ◌∙◌}
use Rattle.lists.proofs.Overwrite.{written_none, written_next, written_all}
use Rattle.lists.proofs.Tabs.{is-tab}
use Rattle.field.proofs.Ranges.{below_at}
use Rattle.text.proofs.reading.narrow.Goals as goal

pub loop-i-init : goal.loop-i-init
loop-i-init c = written_none _ _ _ c.requires.out_len

pub overflow_cast-out : goal.overflow_cast-out
overflow_cast-out c = record { fits = below_at 256 c.args.xs.now c.requires.xs_value _ c.loop-i-test.true }

pub loop-i-preserved : goal.loop-i-preserved
loop-i-preserved c = written_next _ c.loop-i.invariant c.loop-i-test.true refl

pub returns : goal.returns
returns c = written_all c.loop-i.invariant c.loop-i-test.false ∙ sym (is-tab _ _ _ 0 refl (λ i l. refl))
