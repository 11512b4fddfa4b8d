-- A whole listing, printed and read: each undoes the other.
--     shown fs ns          the listing of the figures fs and the step numbers ns; `listing-shown`: the listing of coefficients is one
--     first-names, third-names       the two names lines, without their LF
--     shown-fits, shown-figures, shown-steps      a printed listing passes, and gives its figures and its steps
--     text-shown           a text that passes is the listing of the figures and the steps in it
-- Assumes nothing.
use mathlib.Core.Path.{◌≡◌, refl, sym, ap, ◌∙◌}
use mathlib.Core.Bool.{Bool, true, false, cond}
use mathlib.Core.List.{List, [], ◌∷◌, ◌++◌, append_assoc}
use Prim.Native.Nat.{ℕ, ◌*◌}
use native.Mathlib.Omega.{arith}
use lib.ListN.{length, drop}
use Rattle.lists.specs.Places.{same}
use Rattle.lists.proofs.Sameness.{same_refl, same_true, same-snoc}
use Rattle.field.specs.Residues.{Residues}
use Rattle.plan.specs.declared.numbers.Plan.{Plan}
use Rattle.program.specs.Layout.{layout}
use Rattle.lines.specs.Lines.{cut_at, numbers}
use Rattle.lines.specs.Words.{front}
use Rattle.lines.proofs.Cuts.{lacks, cut-at, glued, glue-cut}
use Rattle.listing.specs.Decimal.{spaced, line}
use Rattle.listing.specs.Printed.{figure_names, step_names, figures, listing}
use Rattle.readback.specs.Listings.{line_fits, bad_line, step_numbers, malformed, steps_in}
use Rattle.readback.specs.Scanned.{figures_in}
use Rattle.readback.proofs.NumberLines.{asks-spaced, numbers-spaced, lacks-spaced, spaced-numbers}
use Rattle.readback.proofs.StepLines.{shown_steps, line-then, bad_more, steps-read, steps-shown}

pub shown : List ℕ → List ℕ → List ℕ
shown fs ns = figure_names ++ (line fs ++ (step_names ++ shown_steps ns))

pub listing-shown : (P : Plan) (w d β : List ℕ) → listing P w d β ≡ shown (figures P w d β) (layout P w d β)
unfolding listing shown
listing-shown P w d β = refl

-- the two names lines without their LF
abbrev pub figure_words : List ℕ
figure_words = 98 ∷ 111 ∷ 111 ∷ 116 ∷ 115 ∷ 116 ∷ 114 ∷ 97 ∷ 112 ∷ 115 ∷ 32 ∷ 115 ∷ 116 ∷ 101 ∷ 112 ∷ 115 ∷ 32 ∷ 119 ∷ 111 ∷ 114 ∷ 115 ∷ 116 ∷ []

abbrev pub step_words : List ℕ
step_words = 107 ∷ 105 ∷ 110 ∷ 100 ∷ 32 ∷ 116 ∷ 111 ∷ 32 ∷ 102 ∷ 114 ∷ 111 ∷ 109 ∷ 32 ∷ 98 ∷ 121 ∷ []

-- as the code compares them
pub first-names : (bytes : List ℕ) → line_fits 1 bytes ≡ same bytes figure_words
unfolding line_fits
first-names bytes = same-snoc 10 bytes figure_words

pub third-names : (bytes : List ℕ) → line_fits 3 bytes ≡ same bytes step_words
unfolding line_fits
third-names bytes = same-snoc 10 bytes step_words

module _ (a b c : ℕ) (ns : List ℕ) (n : ℕ) (whole : length ns ≡ 4 * n) (small : Residues 10000000 (a ∷ b ∷ c ∷ [])) (few : Residues 100000 ns) where
  abbrev fs : List ℕ
  fs = a ∷ b ∷ c ∷ []

  cut : cut_at 10 (shown fs ns) ≡ figure_words ∷ (spaced fs ∷ (step_words ∷ cut_at 10 (shown_steps ns)))
  unfolding shown lacks
  cut =
      cut-at 10 figure_words (line fs ++ (step_names ++ shown_steps ns)) refl
      ∙ ap (λ (ps : List (List ℕ)). figure_words ∷ ps)
      (ap (cut_at 10) (line-then fs (step_names ++ shown_steps ns))
      ∙ cut-at 10 (spaced fs) (step_names ++ shown_steps ns) (lacks-spaced 6 (omega arith) a (b ∷ c ∷ []) small)
      ∙ ap (λ (ps : List (List ℕ)). spaced fs ∷ ps) (cut-at 10 step_words (shown_steps ns) refl))

  pub shown-fits : malformed (shown fs ns) ≡ 0
  unfolding malformed bad_line line_fits
  shown-fits =
      ap (bad_line 1) cut
      ∙ rw (same_refl figure_names, asks-spaced 6 (omega arith) a (b ∷ c ∷ []) (omega arith) small)
      (bad_more step_words (shown_steps ns) 3 (same_refl step_names) ∙ (steps-read n 4 ns whole (omega arith) few).fit)

  pub shown-figures : figures_in (shown fs ns) ≡ fs
  shown-figures = ap (λ (ps : List (List ℕ)). numbers (front (drop 1 ps))) cut ∙ numbers-spaced 6 (omega arith) a (b ∷ c ∷ []) small

  pub shown-steps : steps_in (shown fs ns) ≡ ns
  unfolding steps_in
  shown-steps = ap (λ (ps : List (List ℕ)). step_numbers (drop 3 ps)) cut ∙ (steps-read n 4 ns whole (omega arith) few).numbers-are

-- a text that passes: its first three lines, and the rest
passes : (a b c : Bool) (later : ℕ) → cond a (cond b (cond c later 3) 2) 1 ≡ 0 → (a ≡ true) × (b ≡ true) × (c ≡ true) × (later ≡ 0)
passes true true true later e = (refl, refl, refl, e)
passes true true false later e = absurd (omega arith)
passes true false c later e = absurd (omega arith)
passes false b c later e = absurd (omega arith)

-- a line with its LF, before others
ended : (bytes whole rest : List ℕ) → bytes ++ (10 ∷ []) ≡ whole → bytes ++ (10 ∷ rest) ≡ whole ++ rest
ended bytes whole rest e = sym (append_assoc bytes (10 ∷ []) rest) ∙ ap (λ (xs : List ℕ). xs ++ rest) e

pieces-shown : (pieces : List (List ℕ)) → bad_line 1 pieces ≡ 0 → glued 10 pieces ≡ shown (numbers (front (drop 1 pieces))) (step_numbers (drop 3 pieces))
unfolding bad_line glued shown line_fits
pieces-shown [] e = absurd (omega arith)
pieces-shown (one ∷ []) e = absurd (omega arith)
pieces-shown (one ∷ two ∷ []) e = absurd (short (line_fits 1 one) e)
  where
    short : (a : Bool) → ◌≡◌ {A = ℕ} (cond a 2 1) 0 → ⊥
    short true z = omega arith
    short false z = omega arith
pieces-shown (one ∷ two ∷ three ∷ []) e = absurd (short (line_fits 1 one) (line_fits 2 two) e)
  where
    short : (a b : Bool) → ◌≡◌ {A = ℕ} (cond a (cond b 3 2) 1) 0 → ⊥
    short true true z = omega arith
    short true false z = omega arith
    short false b z = omega arith
pieces-shown (one ∷ two ∷ three ∷ more ∷ pieces) e =
    let h = passes (line_fits 1 one) (line_fits 2 two) (line_fits 3 three) (bad_line 4 (more ∷ pieces)) e in
    let last = glued 10 (more ∷ pieces) in
    ended one figure_names (two ++ (10 ∷ (three ++ (10 ∷ last)))) (same_true (one ++ (10 ∷ [])) figure_names h.0)
    ∙ ap (λ (xs : List ℕ). figure_names ++ xs)
    (ap (λ (xs : List ℕ). xs ++ (10 ∷ (three ++ (10 ∷ last)))) (sym (spaced-numbers 7 3 two (omega arith) h.1))
    ∙ sym (line-then (numbers two) (three ++ (10 ∷ last)))
    ∙ ap (λ (xs : List ℕ). line (numbers two) ++ xs)
    (ended three step_names last (same_true (three ++ (10 ∷ [])) step_names h.2)
    ∙ ap (λ (xs : List ℕ). step_names ++ xs) (steps-shown 4 (more ∷ pieces) (omega arith) h.3)))

pub text-shown : (text : List ℕ) → malformed text ≡ 0 → text ≡ shown (figures_in text) (steps_in text)
unfolding malformed steps_in
text-shown text e = sym (glue-cut 10 text) ∙ pieces-shown (cut_at 10 text) e
