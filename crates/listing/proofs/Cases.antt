-- Facts about the worst norm (02, C-14): how a weight counts, the largest norm there is, and rows of each kind as the largest. Each computes.
-- Assumes nothing.
use mathlib.Core.Path.{◌≡◌, refl}
use mathlib.Core.List.{[], ◌∷◌}
use Rattle.lists.specs.Places.{sum, tab, largest}
use Rattle.plan.specs.declared.numbers.Plan.{Plan}
use Rattle.listing.specs.Norm.{short, squares, worst}

-- p = 5, one digit and one link, two products: a link row of one weight, two d rows and three β rows of two each
abbrev F : Plan
F = record { p = 5; s = 2; n = 1; m = 1; t = 2 }

pub record Norms : Type 0 where
  -- "A weight w above (p−1)/2 therefore counts as w − p": 0, 1, 2, -2, -1
  pub fifths : tab 5 (short 5) ≡ 0 ∷ 1 ∷ 2 ∷ 2 ∷ 1 ∷ []
  -- 4 + 4 + 1
  pub three-weights : squares 5 (2 ∷ 3 ∷ 4 ∷ []) 0 3 ≡ 9
  -- 125 counts as itself, 126 as -125, 250 as -1
  pub below-middle : short 251 125 ≡ 125
  pub above-middle : short 251 126 ≡ 125
  pub minus_one : short 251 250 ≡ 1
  -- "XOR still prints 2": p = 3, d = 1 1, β = 0 1 1 0
  pub xor : worst (record { p = 3; s = 2; n = 2; m = 0; t = 1 }) [] (1 ∷ 1 ∷ []) (0 ∷ 1 ∷ 1 ∷ 0 ∷ []) ≡ 2
  -- the largest norm there is: 64 weights of 125, or of -125
  pub widest : squares 251 (tab 64 (λ _. 125)) 0 64 ≡ 1000000
  pub widest-minus : squares 251 (tab 64 (λ _. 126)) 0 64 ≡ 1000000
  -- the largest is the link row, the second d row, the last β row: each time another row is larger by its long side
  pub largest-link : worst F (2 ∷ []) (4 ∷ 1 ∷ 4 ∷ 0 ∷ []) (4 ∷ 4 ∷ 1 ∷ 4 ∷ 4 ∷ 0 ∷ []) ≡ 4
  pub largest-d : worst F (4 ∷ []) (4 ∷ 4 ∷ 2 ∷ 1 ∷ []) (4 ∷ 4 ∷ 1 ∷ 4 ∷ 4 ∷ 0 ∷ []) ≡ 5
  pub largest-β : worst F (4 ∷ []) (4 ∷ 4 ∷ 2 ∷ 1 ∷ []) (4 ∷ 4 ∷ 1 ∷ 4 ∷ 2 ∷ 2 ∷ []) ≡ 8

pub norms : Norms
unfolding sum tab largest short squares worst
norms =
    record {
      fifths = refl;
      three-weights = refl;
      below-middle = refl;
      above-middle = refl;
      minus_one = refl;
      xor = refl;
      widest = refl;
      widest-minus = refl;
      largest-link = refl;
      largest-d = refl;
      largest-β = refl;
    }
