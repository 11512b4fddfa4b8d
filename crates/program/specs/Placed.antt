-- What the writer's inner functions ask and leave, each of which writes one piece of the program into the caller's slice. Renders no
-- sentence of a document: it serves the code, and what the writer itself promises is in `Calls`. Stands on `lists`.
--     Room out k xs      the slice out has room for xs from place k on
--     Fits w xs          the writer's slice has room for xs from its place on
--     Wrote w xs v       the writer w with xs written is v: the same slice with xs from w's place on, and the place behind it
use Rattle.std.specs.Prelude.{◌≡◌, List, ℕ, ◌+◌, ◌≤◌, length}
use Rattle.lists.specs.Places.{placed}
use Rattle.program.specs.declared.writing.Writer.{Writer}

abbrev pub Room : List ℕ → ℕ → List ℕ → Type 0
Room out k xs = k + length xs ≤ length out

abbrev pub Fits : Writer → List ℕ → Type 0
Fits w xs = Room w.out.now w.at xs

pub record Wrote (w : Writer) (xs : List ℕ) (v : Writer) : Type 0 where
  pub next : v.at ≡ w.at + length xs
  pub list : v.out.now ≡ placed w.out.now w.at xs
  pub size : length v.out.now ≡ length w.out.now
  pub same : v.out.ghost_name ≡ w.out.ghost_name
