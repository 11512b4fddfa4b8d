use Rattle.std.proofs.Common.{◌∙◌, ℕ, get_or, length, refl, sym, ap, arith}
use Rattle.lists.specs.Places.{at}
use Rattle.lists.proofs.Tabs.{is-tab}
use Rattle.field.proofs.rows.accumulate.Goals as goal

pub returns-then-g-eq0 : goal.returns-then-g-eq0
returns-then-g-eq0 g c =
    let total = g.T.Total in
    let acc = c.args.acc.now in
    let ys = c.args.ys.now in
    is-tab acc (length acc) _ total.zero refl
    (λ j l.
    sym (ap (λ (n : ℕ). total.plus (get_or acc j total.zero) n (at ys j)) c.if-g-eq0.true ∙ g.met.T.Total.plus_none (get_or acc j total.zero) (at ys j)))

pub returns : goal.returns
returns g c = is-tab c.loop-j.acc (length c.args.acc.now) _ g.T.Total.zero c.loop-j.auto.acc (λ j l. c.loop-j.invariant.done j (omega arith))
