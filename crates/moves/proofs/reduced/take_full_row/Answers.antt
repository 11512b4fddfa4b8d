-- `moves::reduced::take_full_row` meets its contract: each return is a side of `full_took` (`FullRowTests`). Assumes nothing.
use native.Mathlib.Omega.{arith}
use mathlib.Core.Path.{refl}
use Rattle.moves.proofs.FullRowTests.{full-none, full-pivot}
use Rattle.moves.proofs.reduced.take_full_row.Goals as goal

-- facts of all clauses as a record of them
clauses : {A B : Type 0} → A × B → record { tops_after : A; tops_after_2 : B }
clauses all = record { tops_after = all.0; tops_after_2 = all.1 }

pub returns-then-above-p : goal.returns-then-above-p
returns-then-above-p c =
    let args = c.args in
    clauses (full-none args.p args.q args.sound _ args.tops.now _ args.row.now c.if-first-eq0.true refl
    (grind arith))

pub returns-else-above-p : goal.returns-else-above-p
returns-else-above-p c =
    let args = c.args in
    clauses (full-none args.p args.q args.sound _ args.tops.now _ args.row.now c.if-first-eq0.true refl
    (grind arith))

pub returns-then-first-eq1 : goal.returns-then-first-eq1
returns-then-first-eq1 c =
    let args = c.args in
    clauses (full-pivot args.p args.q args.sound _ args.tops.now _ args.row.now (omega (arith, c.requires.row_len, c.requires.tops_nonzero)) c.if-first-eq0.false c.raise.ensures
    (grind arith))

pub returns-else-first-eq1 : goal.returns-else-first-eq1
returns-else-first-eq1 c =
    let args = c.args in
    clauses (full-pivot args.p args.q args.sound _ args.tops.now _ args.row.now (omega (arith, c.requires.row_len, c.requires.tops_nonzero)) c.if-first-eq0.false c.raise.ensures
    (grind arith))
