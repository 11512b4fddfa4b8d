-- `ledger::calls::file_listed` meets its contract: what `admit` refuses, else what `file_sound` answers (`Endings`). The work store is cleared
-- before and after. Assumes nothing.
use mathlib.Core.Path.{◌≡◌, refl, sym, ap, ◌∙◌}
use mathlib.Core.List.{List, []}
use Prim.Native.Nat.{ℕ, ◌<◌}
use native.Mathlib.Omega.{arith}
use lib.ListN.{replicate}
use Rattle.std.proofs.lemmas.Result.{err_from_is_err_and}
use Rattle.std.specs.Prelude.{Ok}
use Rattle.plan.specs.Causes.{first}
use Rattle.plan.specs.Numbers.{columns}
use Rattle.plan.specs.Lending.{given_of, whole}
use Rattle.plan.proofs.Refusals.{answer-refuses, leaves-refused}
use Rattle.plan.proofs.Admitting.{passing, turned-away}
use Rattle.store.specs.Calls.{answer_of, column_of}
use Rattle.store.specs.declared.elimination.Filed.{Filed}
use Rattle.ledger.specs.Lists.{Pair}
use Rattle.ledger.specs.Calls.{record_own}
use Rattle.ledger.specs.Stages.{pairs, as_pairs}
use Rattle.ledger.proofs.Endings.{parts-in, left_alone, cleared-after, refused-filing, kept-filing}
use Rattle.ledger.proofs.calls.file_listed.Goals.{in-New, in-Implied}
use Rattle.ledger.proofs.calls.file_listed.Goals as goal

pub returns-in_err-plan : goal.returns-in_err-plan
returns-in_err-plan c =
    let a = c.args in
    let away = turned-away _ _ c.in_err-plan.ensures.answer in
    let own = away (record_own a.store.now (pairs a.count.now a.list.now) a.entry a.value) in
    let none = away (λ _. []) in
    let p = err_from_is_err_and c.from_residual.result c.from_residual.ensures.1 in
    rw (p.1, p.2)
    (refused-filing (given_of a.lent.now) a.store.now a.work.now a.list.now a.size a.count.now a.entry a.store.now a.work.now
    (left_alone _ _ _ _ none.0 none.1) a.value a.column.now _ own.0 refl)

pub first_pairs-pairs-requires : goal.first_pairs-pairs-requires
first_pairs-pairs-requires c =
    let plan = c.in_ok-plan.plan in
    let parts = parts-in plan (passing _ _ plan c.in_ok-plan.ensures).own-fits in
    omega (arith, parts.most, c.requires)

pub file_sound-filed-requires-clause-store_len : goal.file_sound-filed-requires-clause-store_len
file_sound-filed-requires-clause-store_len c =
    let plan = c.in_ok-plan.plan in
    (parts-in plan (passing _ _ plan c.in_ok-plan.ensures).own-fits).store

pub file_sound-filed-requires-clause-work_value : goal.file_sound-filed-requires-clause-work_value
file_sound-filed-requires-clause-work_value c =
    let plan = c.in_ok-plan.plan in
    let parts = parts-in plan (passing _ _ plan c.in_ok-plan.ensures).own-fits in
    c.fill.ensures.after (λ _ e. e) ∙ ap (λ (n : ℕ). replicate n 0) parts.work

pub place-requires-clause-count_le_entries_most : goal.place-requires-clause-count_le_entries_most
place-requires-clause-count_le_entries_most c =
    let plan = c.in_ok-plan.plan in
    (parts-in plan (passing _ _ plan c.in_ok-plan.ensures).own-fits).most

pub returns-in_err-c : goal.returns-in_err-c
returns-in_err-c c =
    let a = c.args in
    let plan = c.in_ok-plan.plan in
    let admitted = passing _ _ plan c.in_ok-plan.ensures in
    let parts = parts-in plan admitted.own-fits in
    let worked = cleared-after _ _ plan _ c.fill-2.new.self a.work.now c.in_ok-plan.ensures.same (admitted.rest (λ _. [])) (c.fill-2.ensures.after (λ _ e. e)) (omega arith) parts.work in
    let heard = answer-refuses _ _ _ (sym c.in_err-c.ensures.r_value) in
    let positive : 0 < first (record_own a.store.now (as_pairs c.first_pairs-pairs.result.now) a.entry a.value (whole plan)) = omega (arith, heard.0, heard.1) in
    let told = sym (admitted.rest _ ∙ ap (λ (l : List Pair). first (record_own a.store.now l a.entry a.value (whole plan))) (sym c.first_pairs-pairs.ensures.value) ∙ heard.0) in
    let p = err_from_is_err_and c.from_residual-in_err-c.result c.from_residual-in_err-c.ensures.1 in
    rw (p.1, p.2)
    (refused-filing (given_of a.lent.now) a.store.now a.work.now a.list.now a.size a.count.now a.entry _ _
    worked a.value a.column.now _ told (c.in_err-c.ensures.store_after ∙ leaves-refused _ _ _ positive))

pub returns : goal.returns
returns c =
    let a = c.args in
    let plan = c.in_ok-plan.plan in
    let admitted = passing _ _ plan c.in_ok-plan.ensures in
    let parts = parts-in plan admitted.own-fits in
    let worked = cleared-after _ _ plan _ c.fill-2.new.self a.work.now c.in_ok-plan.ensures.same (admitted.rest (λ _. [])) (c.fill-2.ensures.after (λ _ e. e)) (omega arith) parts.work in
    let placing : c.match-branch-3.column ≡ column_of (answer_of (Ok c.in_ok-c.field-0)) (columns plan.numbers) a.column.now = elim c.match-branch-3.branch [
      | in-New w ↦ w.column-is ∙ ap (λ (f : Filed). column_of (answer_of (Ok f)) (columns plan.numbers) a.column.now) (sym w.in-New.is)
      | in-Implied w ↦ w.column-is ∙ w.columns.ensures ∙ ap (λ (f : Filed). column_of (answer_of (Ok f)) (columns plan.numbers) a.column.now) (sym w.in-Implied.is)
    ] in
    kept-filing (given_of a.lent.now) a.store.now a.work.now a.list.now a.size a.count.now a.entry _ _ worked a.value a.column.now (whole plan) _ c.in_ok-c.field-0
    c.place.result _ _ c.in_ok-plan.ensures.same c.first_pairs-pairs.ensures.value (admitted.rest _) c.in_ok-c.ensures c.place.ensures.r_value
    c.place.ensures.count_after placing
