use mathlib.Core.Path.{sym, ◌∙◌}
use Prim.Native.Nat.{◌<◌}
use native.Mathlib.Nat.{le_refl, le_of_lt}
use native.Mathlib.Omega.{arith}
use borrow.Author.Count.{below_more}
use Rattle.lists.specs.Places.{at}
use Rattle.store.specs.Elimination.{cells}
use Rattle.store.proofs.Residuals.{residual-small}
use Rattle.store.proofs.Leads.{lead_is}
use Rattle.store.proofs.Freeing.{pivots-cleared}
use Rattle.store.proofs.Standings.{free-answer, forced-answer}
use Rattle.store.proofs.against.Against.search.Goals as goal

pub returns-then-residue-ne0 : goal.returns-then-residue-ne0
returns-then-residue-ne0 c =
    let self = c.args.self.now in
    let passed = pivots-cleared self.ready self.line _ _ c.in-Some.ensures.next c.loop-q.invariant.1 in
    free-answer _ _ _ _ _ (sym (lead_is _ _ _ (le_of_lt c.in-Some.ensures.column) passed (λ l z. c.if-residue-ne0.true (c.residue.ensures ∙ z)))) c.in-Some.ensures.column

pub loop-q-preserved : goal.loop-q-preserved
loop-q-preserved c =
    let self = c.args.self.now in
    let passed = pivots-cleared self.ready self.line _ _ c.in-Some.ensures.next c.loop-q.invariant.1 in
    (omega (arith, c.in-Some.ensures.column), below_more _ _ passed (sym c.residue.ensures ∙ c.if-residue-ne0.false))

pub opposite-requires : goal.opposite-requires
opposite-requires c =
    let pos : 0 < c.args.self.now.p = omega (arith, c.args.self.now.ready.modulus.0) in
    rw c.residue-2.ensures (residual-small c.args.self.now.p c.args.self.now.c (cells c.args.self.now.c c.args.self.now.store.now) (at c.args.self.now.e.now) c.args.self.now.c pos)

pub returns : goal.returns
returns c =
    let self = c.args.self.now in
    let passed = pivots-cleared self.ready self.line _ _ c.in_default.ensures.next c.loop-q.invariant.1 in
    forced-answer _ _ _ _ _ (sym (lead_is _ _ _ (le_refl _) passed (λ l. absurd (omega arith)))) (le_refl _) _ _ c.residue-2.ensures c.opposite.ensures
