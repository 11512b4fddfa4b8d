-- What a step that the run has read says of its four numbers. Renders no sentence of a document: it serves the code, and what a step does
-- is in `Steps`.
--     Reads s kind to from by     the step s is the one of these numbers
use Rattle.std.specs.Prelude.{◌≡◌, ℕ}
use Rattle.program.specs.declared.running.Step.{Step}
use Rattle.program.specs.declared.running.Step.TheVariants.{Clear, Add, Boot}

abbrev pub Reads : Step → ℕ → ℕ → ℕ → ℕ → Type 0
Reads (Clear r) kind to from by = (kind ≡ 0) × (r ≡ to)
Reads (Add r s b) kind to from by = (kind ≡ 1) × (r ≡ to) × (s ≡ from) × (b ≡ by)
Reads (Boot r s b) kind to from by = (kind ≡ 2) × (r ≡ to) × (s ≡ from) × (b ≡ by)
