-- `celerycrag::celery_withdraw` meets its contract: the list is the records unpacked, and what is left to do of them is done (`Told` of `ledger`).
-- Assumes nothing.
use mathlib.Core.Path.{◌≡◌, refl, subst, ◌∙◌}
use mathlib.Core.List.{List, [], ◌∷◌}
use Prim.Native.Nat.{ℕ, zero, suc}
use Rattle.plan.specs.Causes.{first, leaves, answer}
use Rattle.plan.specs.Parts.{Given}
use Rattle.ledger.specs.Lists.{value_of}
use Rattle.ledger.specs.Calls.{Filled, listed, withdraw_causes, withdraw_answer}
use Rattle.ledger.specs.Stages.{WithdrawnListed}
use Rattle.ledger.proofs.Told.{withdraw-told}
use Rattle.celerycrag.specs.Numbers as specs
use Rattle.celerycrag.proofs.celery_withdraw.Goals as goal

-- the value that a withdrawal leaves in the number lent, from its answer
valued : (G : Given) (F : Filled) (work : List ℕ) (i old : ℕ) → leaves (first (withdraw_causes G F work i)) (value_of (listed F) i) old ≡ specs.value_of (withdraw_answer G F work i) 0 old
unfolding withdraw_answer
valued G F work i old = by_number (first (withdraw_causes G F work i)) (value_of (listed F) i)
  where
    by_number : (k v : ℕ) → leaves k v old ≡ specs.value_of (answer k (v ∷ [])) 0 old
    by_number zero v = refl
    by_number (suc k) v = refl

pub returns : goal.returns
returns c =
    let a = c.args in
    let list = c.unpack-size in
    let taken = c.withdraw_listed-taken in
    let heard = subst (λ (G : Given).
    WithdrawnListed G a.store.now a.work.now list.new.list list.result a.count.now a.entry a.value.now taken.result taken.new.store taken.new.work taken.new.count taken.new.value)
    c.lent-lent.ensures taken.ensures in
    let told = withdraw-told _ _ _ _ _ _ _ _ _ _ _ _ _ _ _ _ c.list_buffer-list.ensures list.ensures.0 list.ensures.1 heard c.remove_record.ensures.records_after in
    (c.remove_record.ensures.number ∙ told.0, told.1, told.2, told.3 ∙ valued _ _ _ _ _)
