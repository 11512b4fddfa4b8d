use mathlib.Core.Path.{refl, sym, ap, subst, ◌∙◌}
use mathlib.Core.List.{List, ◌++◌}
use Prim.Native.Nat.{ℕ, ◌+◌}
use native.Mathlib.Omega.{arith}
use lib.Dec.{eqb}
use Rattle.std.proofs.Common.{rules}
use Rattle.std.proofs.lemmas.Fn.{always_returns_same}
use Rattle.lines.specs.Lines.{asks, numbers}
use Rattle.readback.specs.Scanned.{Kept}
use Rattle.readback.proofs.Keeping.{kept_next}
use Rattle.readback.proofs.StepLines.{step_fits}
use Rattle.readback.proofs.Scanlines.{reached-missing, reached-bad}
use Rattle.readback.proofs.LineCuts.{cutting-next, cutting-end, cut-some, cut-broken, cut-whole}
use Rattle.readback.proofs.scanning.scan_steps.Goals as goal

pub returns-in_default : goal.returns-in_default
returns-in_default c =
    let v = c.loop-i.invariant in
    let steps = c.in-Some.ensures.steps in
    let first = (steps.0.1.2 (λ (x : ℕ). eqb x 10) (always_returns_same _ _ _ (λ a r q k. (search rules, refl)))).1 in
    let none = cut-broken c.args.text.now v.place steps.0.1.0 _ _ _ v.here steps.0.0 steps.0.1.1 first steps.0.2 c.in_default.ensures.cases in
    (reached-missing v.scanning.reached _ refl none (λ _. cut-some _ _ v.here steps.0.2) ∙ ap (λ (n : ℕ). 4 + n) (sym steps.1), omega arith)

pub returns-then-not-read_line : goal.returns-then-not-read_line
returns-then-not-read_line c =
    let v = c.loop-i.invariant in
    let steps = c.in-Some.ensures.steps in
    let first = (steps.0.1.2 (λ (x : ℕ). eqb x 10) (always_returns_same _ _ _ (λ a r q k. (search rules, refl)))).1 in
    let ends = c.in-Some-strip_suffix.ensures.cases in
    let whole = cut-whole c.args.text.now v.place steps.0.1.0 _ _ _ v.here steps.0.0 steps.0.1.1 first steps.0.2 ends.0 _ ends.1 in
    let none = step_fits _ _ v.scanning.late ∙ sym (c.read_line.ensures.0 ∙ ap (asks 5 4) whole.1) ∙ c.if-not-read_line.true in
    (reached-bad v.scanning.reached _ refl whole.0 none ∙ ap (λ (n : ℕ). 4 + n) (sym steps.1), omega arith)

pub loop-i-preserved : goal.loop-i-preserved
loop-i-preserved c =
    let v = c.loop-i.invariant in
    let s = v.scanning in
    let steps = c.in-Some.ensures.steps in
    let first = (steps.0.1.2 (λ (x : ℕ). eqb x 10) (always_returns_same _ _ _ (λ a r q k. (search rules, refl)))).1 in
    let ends = c.in-Some-strip_suffix.ensures.cases in
    let whole = cut-whole c.args.text.now v.place steps.0.1.0 _ _ _ v.here steps.0.0 steps.0.1.1 first steps.0.2 ends.0 _ ends.1 in
    let yes = c.if-not-read_line.false in
    let found = c.read_line.ensures.1 yes ∙ ap numbers whole.1 in
    let keep = c.keep_step-count in
    let kept = kept_next s.read c.read_line.new.out c.loop-i.steps keep.new.steps keep.auto.steps c.loop-i.count keep.result keep.ensures.value keep.ensures.steps_after s.kept in
    cutting-next v _ _ _ _ whole.0 whole.2 (omega (arith, steps.2)) (sym (c.read_line.ensures.0 ∙ ap (asks 5 4) whole.1) ∙ yes)
    (subst (λ (ns : List ℕ). Kept (s.read ++ ns) keep.new.steps keep.result) found kept)

pub returns : goal.returns
returns c = cutting-end c.loop-i.invariant c.in-None.ensures.steps.0.0
