-- The lines of steps of a listing, printed and read: each undoes the other.
--     shown_steps ns             the numbers ns, four to a step, as lines
--     shown-next                 one line more in front
--     line-then                  a printed line, and what follows it
--     bad_more, bad-here, numbers_more       a line before others: as its place asks, or malformed, and its numbers
--     step_fits                  what the place of a step asks
--     StepsRead, steps-read      printed lines of steps pass, and give their numbers
--     steps-shown                lines of steps that pass are what their numbers print
-- Assumes nothing.
use mathlib.Core.Path.{◌≡◌, refl, sym, ap, ap₂, ◌∙◌}
use mathlib.Core.Bool.{Bool, true, false}
use mathlib.Core.List.{List, [], ◌∷◌, ◌++◌, append_assoc}
use Prim.Native.Nat.{ℕ, zero, suc, ◌+◌, ◌*◌, ◌/◌, ◌<◌}
use native.Mathlib.Omega.{arith}
use lib.Dec.{eqb}
use lib.ListN.{length}
use lib.Seq.{get_or-append-add}
use borrow.Author.Tests.{lt-ltb, ne_eqb, eqb-true}
use Rattle.lists.specs.Places.{joined, at}
use Rattle.lists.proofs.Joins.{joined-front, joined-ext}
use Rattle.field.specs.Residues.{Residues}
use Rattle.lines.specs.Lines.{cut_at, asks, numbers}
use Rattle.lines.proofs.LineLaws.{asks-count}
use Rattle.lines.proofs.Cuts.{cut-some, cut-at, glued}
use Rattle.listing.specs.Decimal.{spaced, line}
use Rattle.listing.specs.Printed.{step_line}
use Rattle.readback.specs.Listings.{line_fits, bad_line, step_numbers}
use Rattle.readback.proofs.NumberLines.{asks-spaced, numbers-spaced, lacks-spaced, spaced-numbers}

abbrev pub shown_steps : List ℕ → List ℕ
shown_steps ns = joined (step_line ns) (length ns / 4)

pub line-then : (ns rest : List ℕ) → line ns ++ rest ≡ spaced ns ++ (10 ∷ rest)
unfolding line
line-then ns rest = append_assoc (spaced ns) (10 ∷ []) rest

module _ (a b c e : ℕ) (ns : List ℕ) where
  abbrev quad : List ℕ
  quad = a ∷ b ∷ c ∷ e ∷ []

  later : (i k : ℕ) → at (quad ++ ns) (4 * suc i + k) ≡ at ns (4 * i + k)
  later i k =
      let place : 4 * suc i + k ≡ 4 + (4 * i + k) = omega arith in
      ap (at (quad ++ ns)) place ∙ get_or-append-add quad ns (4 * i + k) 0

  first-later : (i : ℕ) → at (quad ++ ns) (4 * suc i) ≡ at ns (4 * i)
  first-later i =
      let place : 4 * suc i ≡ 4 + 4 * i = omega arith in
      ap (at (quad ++ ns)) place ∙ get_or-append-add quad ns (4 * i) 0

  line-later : (i : ℕ) → step_line (quad ++ ns) (suc i) ≡ step_line ns i
  line-later i =
      ap₂ (λ (x y : ℕ). line (x ∷ y ∷ at (quad ++ ns) (4 * suc i + 2) ∷ at (quad ++ ns) (4 * suc i + 3) ∷ [])) (first-later i) (later i 1)
      ∙ ap₂ (λ (x y : ℕ). line (at ns (4 * i) ∷ at ns (4 * i + 1) ∷ x ∷ y ∷ [])) (later i 2) (later i 3)

  pub shown-next : shown_steps (quad ++ ns) ≡ line quad ++ shown_steps ns
  shown-next =
      let count : length (quad ++ ns) / 4 ≡ suc (length ns / 4) = omega arith in
      ap (joined (step_line (quad ++ ns))) count
      ∙ joined-front (step_line (quad ++ ns)) (length ns / 4)
      ∙ ap (λ (xs : List ℕ). line quad ++ xs) (joined-ext (λ i. step_line (quad ++ ns) (suc i)) (step_line ns) (length ns / 4) (λ i _. line-later i))

-- a line before others, which are pieces of a string
module _ (bytes xs : List ℕ) where
  pub bad_more : (j : ℕ) → line_fits j bytes ≡ true → bad_line j (bytes ∷ cut_at 10 xs) ≡ bad_line (suc j) (cut_at 10 xs)
  unfolding bad_line
  bad_more j h = rw ((cut-some 10 xs).pieces, h)

  pub bad-here : (j : ℕ) → line_fits j bytes ≡ false → bad_line j (bytes ∷ cut_at 10 xs) ≡ j
  unfolding bad_line
  bad-here j h = rw ((cut-some 10 xs).pieces, h)

  pub numbers_more : step_numbers (bytes ∷ cut_at 10 xs) ≡ numbers bytes ++ step_numbers (cut_at 10 xs)
  unfolding step_numbers
  numbers_more = rw (cut-some 10 xs).pieces

-- from line 4 on a line is one of four numbers
pub step_fits : (j : ℕ) (bytes : List ℕ) → 3 < j → line_fits j bytes ≡ asks 5 4 bytes
unfolding line_fits
step_fits j bytes h = rw (ne_eqb j 1 (λ e. omega arith), ne_eqb j 2 (λ e. omega arith), ne_eqb j 3 (λ e. omega arith))

-- printed, then read
pub record StepsRead (j : ℕ) (ns : List ℕ) : Type 0 where
  pub fit : bad_line j (cut_at 10 (shown_steps ns)) ≡ 0
  pub numbers-are : step_numbers (cut_at 10 (shown_steps ns)) ≡ ns

pub steps-read : (n j : ℕ) (ns : List ℕ) → length ns ≡ 4 * n → 3 < j → Residues 100000 ns → StepsRead j ns
unfolding joined cut_at bad_line step_numbers
steps-read zero j [] e h small = record { fit = rw (lt-ltb 3 j h); numbers-are = refl }
steps-read zero j (a ∷ ns) e h small = absurd (omega arith)
steps-read (suc n) j [] e h small = absurd (omega arith)
steps-read (suc n) j (a ∷ []) e h small = absurd (omega arith)
steps-read (suc n) j (a ∷ b ∷ []) e h small = absurd (omega arith)
steps-read (suc n) j (a ∷ b ∷ c ∷ []) e h small = absurd (omega arith)
steps-read (suc n) j (a ∷ b ∷ c ∷ f ∷ ns) e h small =
    let quad = a ∷ b ∷ c ∷ f ∷ [] in
    let first : Residues 100000 quad = fronts in
    let rest = steps-read n (suc j) ns (omega arith) (omega arith) (λ i. small (suc (suc (suc (suc i))))) in
    let cut : cut_at 10 (shown_steps (quad ++ ns)) ≡ spaced quad ∷ cut_at 10 (shown_steps ns) =
    ap (cut_at 10) (shown-next a b c f ns ∙ line-then quad (shown_steps ns)) ∙ cut-at 10 (spaced quad) (shown_steps ns) (lacks-spaced 4 (omega arith) a (b ∷ c ∷ f ∷ []) first) in
    record {
      fit =
          ap (bad_line j) cut
          ∙ bad_more (spaced quad) (shown_steps ns) j (step_fits j (spaced quad) h ∙ asks-spaced 4 (omega arith) a (b ∷ c ∷ f ∷ []) (omega arith) first)
          ∙ rest.fit;
      numbers-are =
          ap step_numbers cut
          ∙ numbers_more (spaced quad) (shown_steps ns)
          ∙ ap₂ ◌++◌ (numbers-spaced 4 (omega arith) a (b ∷ c ∷ f ∷ []) first) rest.numbers-are;
    }
  where
    fronts : Residues 100000 (a ∷ b ∷ c ∷ f ∷ [])
    fronts zero = small 0
    fronts (suc zero) = small 1
    fronts (suc (suc zero)) = small 2
    fronts (suc (suc (suc zero))) = small 3
    fronts (suc (suc (suc (suc i)))) = omega arith

-- read, then printed
shown-line : (bytes rest : List ℕ) → asks 5 4 bytes ≡ true → bytes ++ (10 ∷ shown_steps rest) ≡ shown_steps (numbers bytes ++ rest)
shown-line bytes rest h =
    ap (λ (xs : List ℕ). xs ++ (10 ∷ shown_steps rest)) (sym (spaced-numbers 5 4 bytes (omega arith) h))
    ∙ sym (line-then (numbers bytes) (shown_steps rest))
    ∙ four (numbers bytes) (asks-count 5 4 bytes h)
  where
    four : (ns : List ℕ) → length ns ≡ 4 → line ns ++ shown_steps rest ≡ shown_steps (ns ++ rest)
    four [] e = absurd (omega arith)
    four (a ∷ []) e = absurd (omega arith)
    four (a ∷ b ∷ []) e = absurd (omega arith)
    four (a ∷ b ∷ c ∷ []) e = absurd (omega arith)
    four (a ∷ b ∷ c ∷ f ∷ []) e = sym (shown-next a b c f rest)
    four (a ∷ b ∷ c ∷ f ∷ g ∷ ns) e = absurd (omega arith)

pub steps-shown : (j : ℕ) (pieces : List (List ℕ)) → 3 < j → bad_line j pieces ≡ 0 → glued 10 pieces ≡ shown_steps (step_numbers pieces)
unfolding bad_line step_numbers glued joined
steps-shown j [] h e = absurd (omega arith)
steps-shown j (bytes ∷ []) h e = last bytes (by (eqb (length bytes) 0) refl)
  where
    last : (xs : List ℕ) → length xs ≡ 0 → xs ≡ []
    last [] z = refl
    last (x ∷ xs) z = absurd (omega arith)

    by : (b : Bool) → eqb (length bytes) 0 ≡ b → length bytes ≡ 0
    by true t = eqb-true (length bytes) 0 t
    by false t = let z : j ≡ 0 = sym (rw (lt-ltb 3 j h, t)) ∙ e in absurd (omega arith)
steps-shown j (bytes ∷ (more ∷ pieces)) h e = by (line_fits j bytes) refl (λ e'. steps-shown (suc j) (more ∷ pieces) (omega arith) e')
  where
    by : (b : Bool) → line_fits j bytes ≡ b → (bad_line (suc j) (more ∷ pieces) ≡ 0 → glued 10 (more ∷ pieces) ≡ shown_steps (step_numbers (more ∷ pieces)))
        → bytes ++ (10 ∷ glued 10 (more ∷ pieces)) ≡ shown_steps (numbers bytes ++ step_numbers (more ∷ pieces))
    by true t rest =
        ap (λ (xs : List ℕ). bytes ++ (10 ∷ xs)) (rest (sym (rw t) ∙ e)) ∙ shown-line bytes (step_numbers (more ∷ pieces)) (sym (step_fits j bytes h) ∙ t)
    by false t rest = let z : j ≡ 0 = sym (rw t) ∙ e in absurd (omega arith)
