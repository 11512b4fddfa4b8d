-- `store::reduced::take_row` meets its contract: each return is a side of `took` (`RowTests`). Assumes nothing.
use mathlib.Core.Path.{ap}
use mathlib.Core.Bool.{not}
use mathlib.Core.Path.{◌≡◌, refl, sym, ◌∙◌}
use mathlib.Core.Bool.{true, false}
use borrow.Author.Tests.{eq-eqb, ne_eqb, lt-ltb, le-ltb, not-true, not-false}
use Rattle.lists.specs.Places.{at}
use Rattle.field.specs.Rows.{all_below}
use Rattle.store.proofs.RowTests.{took-none, took-pivot}
use Rattle.store.proofs.reduced.take_row.Goals as goal

-- facts of all clauses as a record of them
clauses : {A B : Type 0} → A × B → record { tops_after : A; tops_after_2 : B }
clauses all = record { tops_after = all.0; tops_after_2 = all.1 }

pub returns-then-not-all_zero : goal.returns-then-not-all_zero
returns-then-not-all_zero c =
    let test = c.all_zero in
    let some : all_below 1 c.args.row.now ≡ false = sym test.ensures ∙ not-true test.result (ap not c.if-not-all_zero.true) in
    clauses (took-none _ _ _ _ _ _ c.if-first-eq0.true refl (rw some))

pub returns-then-above-p : goal.returns-then-above-p
returns-then-above-p c =
    let test = c.all_zero in
    let zero : all_below 1 c.args.row.now ≡ true = sym test.ensures ∙ not-false test.result (ap not c.if-not-all_zero.false) in
    clauses (took-none _ _ _ _ _ _ c.if-first-eq0.true refl (rw (zero, lt-ltb (at c.args.tops.now 0) c.args.p c.if-above-p.true)))

pub returns-then-first-eq0 : goal.returns-then-first-eq0
returns-then-first-eq0 c =
    let test = c.all_zero in
    let zero : all_below 1 c.args.row.now ≡ true = sym test.ensures ∙ not-false test.result (ap not c.if-not-all_zero.false) in
    clauses (took-none _ _ _ _ _ _ c.if-first-eq0.true refl (rw (zero, le-ltb (at c.args.tops.now 0) c.args.p c.if-above-p.false)))

pub returns-then-above-ne0 : goal.returns-then-above-ne0
returns-then-above-ne0 c =
    clauses (took-pivot _ _ _ _ _ _ c.requires.row_nonzero c.if-first-eq0.false c.raise_row.ensures
    (rw (ne_eqb (at c.args.tops.now 0) 0 c.if-above-ne0.true)))

pub returns-then-first-ne1 : goal.returns-then-first-ne1
returns-then-first-ne1 c =
    clauses (took-pivot _ _ _ _ _ _ c.requires.row_nonzero c.if-first-eq0.false c.raise_row.ensures
    (rw (eq-eqb (at c.args.tops.now 0) 0 c.if-above-ne0.false, ne_eqb (at c.args.row.now 0) 1 c.if-first-ne1.true)))

pub returns : goal.returns
returns c =
    clauses (took-pivot _ _ _ _ _ _ c.requires.row_nonzero c.if-first-eq0.false c.raise_row.ensures
    (rw (eq-eqb (at c.args.tops.now 0) 0 c.if-above-ne0.false, eq-eqb (at c.args.row.now 0) 1 c.if-first-ne1.false)))
