-- `ledger::calls::withdraw_listed` meets its contract: what `admit` refuses, else what `withdraw_sound` says (`Endings`). The work store is cleared
-- before and after. Assumes nothing.
use mathlib.Core.Path.{refl, sym, ap, ◌∙◌}
use mathlib.Core.List.{List, []}
use Prim.Native.Nat.{ℕ}
use native.Mathlib.Omega.{arith}
use lib.ListN.{replicate, get_or}
use Rattle.std.proofs.lemmas.Result.{err_from_is_err_and}
use Rattle.plan.specs.Causes.{first}
use Rattle.plan.specs.Lending.{given_of, whole}
use Rattle.plan.proofs.Refusals.{leaves-refused, number-positive}
use Rattle.plan.proofs.Admitting.{passing, turned-away}
use Rattle.lists.specs.Places.{at}
use Rattle.ledger.specs.Lists.{Pair}
use Rattle.ledger.specs.Calls.{withdraw_own}
use Rattle.ledger.specs.Stages.{pairs, as_pairs, taken_by}
use Rattle.ledger.specs.declared.calls.Taken.{Taken}
use Rattle.ledger.proofs.Soundness.{value-pair}
use Rattle.ledger.proofs.Endings.{parts-in, left_alone, cleared-after, found, refused-withdrawal, made-withdrawal}
use Rattle.ledger.proofs.calls.withdraw_listed.Goals as goal

pub returns-in_err-plan : goal.returns-in_err-plan
returns-in_err-plan c =
    let a = c.args in
    let away = turned-away _ _ c.in_err-plan.ensures.answer in
    let own = away (withdraw_own a.store.now (pairs a.count.now a.list.now) a.entry) in
    let none = away (λ _. []) in
    let p = err_from_is_err_and c.from_residual.result c.from_residual.ensures.1 in
    rw (p.1, p.2)
    (refused-withdrawal (given_of a.lent.now) a.store.now a.work.now a.list.now a.size a.count.now a.entry a.store.now a.work.now
    (left_alone _ _ _ _ none.0 none.1) a.value.now _ own.0 refl)

pub first_pairs-pairs-requires : goal.first_pairs-pairs-requires
first_pairs-pairs-requires c =
    let plan = c.in_ok-plan.plan in
    let parts = parts-in plan (passing _ _ plan c.in_ok-plan.ensures).own-fits in
    omega (arith, parts.most, c.requires)

pub withdraw_sound-taken-requires-clause-store_len : goal.withdraw_sound-taken-requires-clause-store_len
withdraw_sound-taken-requires-clause-store_len c =
    let plan = c.in_ok-plan.plan in
    (parts-in plan (passing _ _ plan c.in_ok-plan.ensures).own-fits).store

pub withdraw_sound-taken-requires-clause-work_value : goal.withdraw_sound-taken-requires-clause-work_value
withdraw_sound-taken-requires-clause-work_value c =
    let plan = c.in_ok-plan.plan in
    let parts = parts-in plan (passing _ _ plan c.in_ok-plan.ensures).own-fits in
    c.fill.ensures.after (λ _ e. e) ∙ ap (λ (n : ℕ). replicate n 0) parts.work

pub returns-in_err-taken : goal.returns-in_err-taken
returns-in_err-taken c =
    let a = c.args in
    let plan = c.in_ok-plan.plan in
    let admitted = passing _ _ plan c.in_ok-plan.ensures in
    let parts = parts-in plan admitted.own-fits in
    let worked = cleared-after _ _ plan _ c.fill-2.new.self a.work.now c.in_ok-plan.ensures.same (admitted.rest (λ _. [])) (c.fill-2.ensures.after (λ _ e. e)) (omega arith) parts.work in
    let told = sym (admitted.rest _ ∙ ap (λ (l : List Pair). first (withdraw_own a.store.now l a.entry (whole plan))) (sym c.first_pairs-pairs.ensures.value)
    ∙ sym c.in_err-taken.ensures.refusal) in
    let p = err_from_is_err_and c.from_residual-in_err-taken.result c.from_residual-in_err-taken.ensures.1 in
    rw (p.1, p.2)
    (refused-withdrawal (given_of a.lent.now) a.store.now a.work.now a.list.now a.size a.count.now a.entry _ _
    worked a.value.now _ told (c.in_err-taken.ensures.store_after ∙ leaves-refused _ _ _ (number-positive _)))

pub returns : goal.returns
returns c =
    let a = c.args in
    let plan = c.in_ok-plan.plan in
    let admitted = passing _ _ plan c.in_ok-plan.ensures in
    let parts = parts-in plan admitted.own-fits in
    let worked = cleared-after _ _ plan _ c.fill-2.new.self a.work.now c.in_ok-plan.ensures.same (admitted.rest (λ _. [])) (c.fill-2.ensures.after (λ _ e. e)) (omega arith) parts.work in
    let l = as_pairs c.first_pairs-pairs.result.now in
    let made = c.in_ok-taken.ensures in
    let valued = ap (λ (x : Taken). at (get_or c.first_pairs-pairs.result.now x.«at» []) 1) made.taken
    ∙ value-pair c.first_pairs-pairs.result.now a.entry (found (whole plan) a.store.now l a.entry (sym made.refusal)) in
    made-withdrawal (given_of a.lent.now) a.store.now a.work.now a.list.now a.size a.count.now a.entry _ _ worked a.value.now (whole plan) l
    c.in_ok-taken.taken _ c.in_ok-plan.ensures.same c.first_pairs-pairs.ensures.value (admitted.rest _)
    record { refusal = made.refusal; taken = made.taken ∙ ap (λ (n : ℕ). taken_by l n a.entry) c.first_pairs-pairs.ensures.len; store_after = made.store_after } valued
