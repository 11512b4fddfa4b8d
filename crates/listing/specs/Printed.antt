-- 01, "The filing program": what is printed. Names lines are byte strings; every line ends in LF. Stands on `Decimal` and `Norm`, and on
-- `program` for the steps.
--     figure_names         `bootstraps steps worst`
--     step_names           `kind to from by`
--     refusal_names        `refusal line`
--     figures P w d β      the three figures: bootstraps, steps, worst
--     step_line steps i    step i of a list as a line
--     listing P w d β      the printed program: names, figures, names, and a line for each step
--     refused k j          the printed refusal: cause k at line j
use Rattle.std.specs.Prelude.{List, [], ◌∷◌, ◌++◌, ℕ, ◌+◌, ◌*◌, ◌/◌, length}
use Rattle.lists.specs.Places.{joined}
use Rattle.plan.specs.declared.numbers.Plan.{Plan}
use Rattle.program.specs.Steps.{kind_of, to_of, from_of, by_of}
use Rattle.program.specs.Layout.{layout, step_count}
use Rattle.listing.specs.Norm.{worst}
use Rattle.listing.specs.Decimal.{line}

abbrev pub figure_names : List ℕ
figure_names = 98 ∷ 111 ∷ 111 ∷ 116 ∷ 115 ∷ 116 ∷ 114 ∷ 97 ∷ 112 ∷ 115 ∷ 32 ∷ 115 ∷ 116 ∷ 101 ∷ 112 ∷ 115 ∷ 32 ∷ 119 ∷ 111 ∷ 114 ∷ 115 ∷ 116 ∷ 10 ∷ []

abbrev pub step_names : List ℕ
step_names = 107 ∷ 105 ∷ 110 ∷ 100 ∷ 32 ∷ 116 ∷ 111 ∷ 32 ∷ 102 ∷ 114 ∷ 111 ∷ 109 ∷ 32 ∷ 98 ∷ 121 ∷ 10 ∷ []

abbrev pub refusal_names : List ℕ
refusal_names = 114 ∷ 101 ∷ 102 ∷ 117 ∷ 115 ∷ 97 ∷ 108 ∷ 32 ∷ 108 ∷ 105 ∷ 110 ∷ 101 ∷ 10 ∷ []

abbrev pub figures : Plan → List ℕ → List ℕ → List ℕ → List ℕ
figures P w d β = (P.m + 2 * P.t) ∷ step_count P ∷ worst P w d β ∷ []

abbrev pub step_line : List ℕ → ℕ → List ℕ
step_line steps i = line (kind_of steps i ∷ to_of steps i ∷ from_of steps i ∷ by_of steps i ∷ [])

unfoldable pub listing : Plan → List ℕ → List ℕ → List ℕ → List ℕ
listing P w d β =
    figure_names ++ (line (figures P w d β) ++ (step_names ++ joined (step_line (layout P w d β)) (length (layout P w d β) / 4)))

unfoldable pub refused : ℕ → ℕ → List ℕ
refused k j = refusal_names ++ line (k ∷ j ∷ [])
