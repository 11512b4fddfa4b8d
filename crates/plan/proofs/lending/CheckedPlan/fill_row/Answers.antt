-- `plan::lending::CheckedPlan::fill_row` meets its contract: the variables are the first L places of the local array. Assumes nothing.
use Rattle.std.specs.Prelude.{◌≡◌, ◌<◌, List, ℕ, length}
use mathlib.Core.Path.{sym, ap, subst⁻¹, ◌∙◌}
use lib.Seq.{take_at}
use Rattle.lists.specs.Places.{tab, at}
use Rattle.plan.specs.Numbers.{columns}
use Rattle.plan.specs.Lending.{whole}
use Rattle.plan.specs.Rows.{row_place, row}
use Rattle.plan.proofs.Chains.{values_length, values-residues}
use Rattle.plan.proofs.lending.CheckedPlan.fill_row.Goals as goal

pub fill_blocks-requires-clause-x_len : goal.fill_blocks-requires-clause-x_len
fill_blocks-requires-clause-x_len c =
    let plan = c.args.self.now in
    let G = whole plan in
    let count : length c.fill_variables.new.x ≡ c.variables-l.result = ap length c.fill_variables.ensures ∙ values_length G _ ∙ sym c.variables-l.ensures in
    let x = take_at c.fill_variables.new.x _ c.variables-l.result count ∙ c.fill_variables.ensures in
    let residues = values-residues G _ plan.within plan.lent in
    (ap length x ∙ values_length G _, λ j. subst⁻¹ (λ (xs : List ℕ). at xs j < G.numbers.p) x (residues j))

pub returns : goal.returns
unfolding row
returns c =
    let G = whole c.args.self.now in
    let count : length c.fill_variables.new.x ≡ c.variables-l.result = ap length c.fill_variables.ensures ∙ values_length G _ ∙ sym c.variables-l.ensures in
    let front = take_at c.fill_variables.new.x _ c.variables-l.result count ∙ c.fill_variables.ensures in
    c.fill_blocks.ensures ∙ ap (λ (xs : List ℕ). tab (columns G.numbers) (row_place G.numbers G.products xs)) front
