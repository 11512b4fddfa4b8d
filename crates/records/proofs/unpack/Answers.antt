use Rattle.std.proofs.Common.{◌≡◌, ℕ, List, suc, ◌∙◌, refl, sym, ◌+◌, ◌-◌, ◌<◌, ◌≤◌, get_or, arith}
use Rattle.records.specs.Listed.{none, noted, unpacked}
use Rattle.records.specs.declared.Record.{Record}
use Rattle.records.proofs.unpack.Goals as goal

-- one record more is noted, and none is left
taken : (n i : ℕ) (l : List Record) (s : List ℕ) → i < n
    → unpacked (n - i) i l s ≡ unpacked (n - (i + 1)) (i + 1) l (noted s i (get_or l i none).entry (get_or l i none).value)
unfolding unpacked
taken n i l s more =
    let e : n - i ≡ suc (n - (i + 1)) = omega arith in
    rw e refl

done : (n i : ℕ) (l : List Record) (s t : List ℕ) → n ≤ i → unpacked (n - i) i l s ≡ t → s ≡ t
unfolding unpacked
done n i l s t over same =
    let e : n - i ≡ 0 = omega arith in
    rw e at same

pub loop-i-preserved : goal.loop-i-preserved
loop-i-preserved c = rw c.note.ensures (sym (taken _ _ _ _ c.loop-i-test.true) ∙ c.loop-i.invariant)

pub returns : goal.returns
returns c = (refl, done _ _ _ _ _ c.loop-i-test.false c.loop-i.invariant)
