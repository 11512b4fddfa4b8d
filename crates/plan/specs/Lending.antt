-- The two forms in which the code passes a plan on, as the plan as lent (`Given`) that they stand for. Stands on `Parts`.
--     given_of L           of a plan of which nothing is known, by its numbers and parts
--     whole Q              of a plan that meets none of causes 1 to 5, with the parts that it carries
--     admission_of a       what `admit` answers: the plan's numbers, or the refusal's
use Rattle.std.specs.Prelude.{Result}
use Rattle.plan.specs.Causes.{Answer, answer_with}
use Rattle.plan.specs.Numbers.{numbers_of}
use Rattle.plan.specs.Parts.{Given, lend, given}
use Rattle.plan.specs.declared.refusal.Refusal.{Refusal}
use Rattle.plan.specs.declared.lending.LentPlan.{LentPlan}
use Rattle.plan.specs.declared.lending.CheckedPlan.{CheckedPlan}

abbrev pub given_of : LentPlan → Given
given_of L = given L.p L.s L.n L.m L.t L.radices.now L.weights.now L.tables.now L.products.now

abbrev pub whole : CheckedPlan → Given
whole Q = lend Q.numbers Q.radices.now Q.weights.now Q.tables.now Q.products.now

abbrev pub admission_of : Result CheckedPlan Refusal → Answer
admission_of a = answer_with (λ Q. numbers_of Q.numbers) a
