use mathlib.Core.Path.{◌≡◌, sym, subst, ◌∙◌}
use mathlib.Core.Bool.{true, false, false≢true}
use mathlib.Core.List.{List}
use Prim.Native.Nat.{ℕ, ◌+◌, ◌≤◌, ◌<◌}
use native.Mathlib.Omega.{arith}
use lib.ListN.{length, set}
use Rattle.std.specs.Prelude.{Option, Some, None, IfSome, Result, Ok, Err, OkIff}
use Rattle.std.specs.Result.{result_ok}
use Rattle.lists.specs.Places.{placed, at}
use Rattle.readback.specs.Scanned.{fits, count_after}
use Rattle.readback.proofs.Keeping.{Putting, putting-next, putting-all, wide-number}
use Rattle.readback.proofs.scanning.keep_step.Goals as goal

-- what a conversion that fails says, and one that doesn't
too_large : {E : Type 0} (r : Result ℕ E) (n : ℕ) → OkIff r (n < 65536) n → result_ok r ≡ None → 65536 ≤ n
too_large (Ok x) n h e = cc
too_large (Err x) n h e = omega arith

small : {E : Type 0} (r : Result ℕ E) (n x : ℕ) → OkIff r (n < 65536) n → result_ok r ≡ Some x → (n < 65536) × (x ≡ n)
small (Ok y) n x h e = (h.0, cc)
small (Err y) n x h e = cc

unfit : (v e left : List ℕ) (k : ℕ) (count : Option ℕ) → count ≡ Some k → fits v (length e) k ≡ false
    → record { value : None ≡ count_after v (length e) count; steps_after : IfSome count (λ j. fits v (length e) j ≡ true → left ≡ placed e j v) }
unfit v e left k count h none =
    subst (λ (o : Option ℕ). record { value : None ≡ count_after v (length e) o; steps_after : IfSome o (λ j. fits v (length e) j ≡ true → left ≡ placed e j v) }) (sym h)
    (record { value = rw none; steps_after = λ t. absurd (false≢true (sym none ∙ t)) })

pub returns-in_err-steps : goal.returns-in_err-steps
returns-in_err-steps c =
    let a = c.args in
    let wide = too_large c.try_from.result (at a.v.now c.loop-i.i) c.try_from.ensures (sym c.ok.ensures.value ∙ c.in_err-steps.was) in
    let none = unfit a.v.now a.steps.now c.loop-i.steps c.in_ok-before.before a.count c.in_ok-before.was (wide-number a.v.now a.steps.now c.in_ok-before.before c.loop-i.i c.loop-i-test.true wide) in
    record { value = c.from_residual-in_err-steps.ensures ∙ none.value; steps_after = none.steps_after }

pub loop-i-preserved : goal.loop-i-preserved
loop-i-preserved c =
    let a = c.args in
    let k = c.in_ok-before.before in
    let kept = small c.try_from.result (at a.v.now c.loop-i.i) c.in_ok-steps.field-0 c.try_from.ensures (sym c.ok.ensures.value ∙ c.in_ok-steps.was) in
    subst (λ (n : ℕ). Putting a.v.now a.steps.now k (c.loop-i.i + 1) (set c.loop-i.steps (k + c.loop-i.i) n)) (sym kept.1)
    (putting-next a.v.now a.steps.now k c.if-steps-end.false c.loop-i.invariant c.loop-i-test.true kept.0)

pub returns-clause-value : goal.returns-clause-value
returns-clause-value c =
    let a = c.args in
    let all = putting-all a.v.now a.steps.now c.in_ok-before.before c.if-steps-end.false c.loop-i.invariant c.loop-i-test.false in
    rw (c.in_ok-before.was, all.0)
