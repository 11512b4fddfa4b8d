-- `ledger::calls::file_sound` meets its contract: what `check_listed` refuses, then cause 8, else what filing answers. Assumes nothing.
use mathlib.Core.Path.{refl, sym, ◌∙◌}
use native.Mathlib.Omega.{arith}
use borrow.Author.Tests.{lt-ltb}
use Rattle.std.specs.Prelude.{◌<◌}
use Rattle.store.proofs.StoreCalls.{ready_of, filed-call}
use Rattle.ledger.proofs.Endings.{before-filing, sound-listed}
use Rattle.ledger.proofs.calls.file_sound.Goals as goal

pub file_entry-requires-clause-ready : goal.file_entry-requires-clause-ready
file_entry-requires-clause-ready c =
    ready_of _ _ c.args.plan.now.within c.requires.store_len (sound-listed _ _ _ _ (sym c.in_ok-check_listed.ensures)).0

pub returns-clause-store_after : goal.returns-clause-store_after
returns-clause-store_after c =
    let a = c.args in
    let below : a.value < a.plan.now.numbers.s = omega (arith, c.from.ensures, c.if-from-value.false) in
    (filed-call _ _ _ _ _ _ c.file_entry.result _ refl c.requires.store_len
    (before-filing _ _ _ _ _ (sym c.in_ok-check_listed.ensures) ∙ rw (lt-ltb _ _ below)) c.file_entry.ensures.result_value c.file_entry.ensures.store_after).1
