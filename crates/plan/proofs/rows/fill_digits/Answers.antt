use Rattle.std.specs.Prelude.{◌≡◌, ℕ, ◌-◌, ◌<◌}
use mathlib.Core.Path.{sym, ap, subst, ◌∙◌}
use Prim.Native.Nat.{suc}
use native.Mathlib.Nat.{mod-lt}
use native.Mathlib.Omega.{arith}
use Rattle.lists.specs.Places.{tab, at}
use Rattle.plan.specs.Rows.{digit}
use Rattle.plan.proofs.Radix.{radices-positive}
use Rattle.plan.proofs.Digits.{Split, split-none, split-next, split-all}
use Rattle.plan.proofs.rows.fill_digits.Goals as goal

pub loop-j-init : goal.loop-j-init
loop-j-init c = split-none c.args.plan.now.radices.now c.args.entry c.args.x.now (c.requires ∙ sym c.args.plan.now.lent.radices.count)

pub nonzero_rem-x : goal.nonzero_rem-x
nonzero_rem-x c = radices-positive _ _ c.args.plan.now.lent.radices.fit _ (omega (arith, c.loop-j.invariant.near))

pub overflow_cast-x : goal.overflow_cast-x
overflow_cast-x c =
    let loop = c.loop-j in
    let R = c.args.plan.now.radices.now in
    let positive : 0 < at R (loop.j - 1) = radices-positive _ R c.args.plan.now.lent.radices.fit _ (omega (arith, loop.invariant.near)) in
    omega (arith, mod-lt loop.rest positive, c.type_inv.radices (loop.j - 1))

pub nonzero_div-rest : goal.nonzero_div-rest
nonzero_div-rest c = radices-positive _ _ c.args.plan.now.lent.radices.fit _ (omega (arith, c.loop-j.invariant.near))

pub loop-j-preserved : goal.loop-j-preserved
loop-j-preserved c =
    let loop = c.loop-j in
    let R = c.args.plan.now.radices.now in
    let e : loop.j ≡ suc (loop.j - 1) = omega arith in
    split-next R c.args.entry (loop.j - 1) loop.rest loop.x (subst (λ (j : ℕ). Split R c.args.entry j loop.rest loop.x) e loop.invariant)

pub returns : goal.returns
returns c =
    let loop = c.loop-j in
    let plan = c.args.plan.now in
    let R = plan.radices.now in
    let e : loop.j ≡ 0 = omega arith in
    split-all R c.args.entry (subst (λ (j : ℕ). Split R c.args.entry j loop.rest loop.x) e loop.invariant)
    ∙ ap (λ (n : ℕ). tab n (digit R c.args.entry)) plan.lent.radices.count
