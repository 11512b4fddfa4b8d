-- `readback::scanning::scan_text` meets its contract: three lines one after the other, then the lines of steps (`Scanlines`). Assumes nothing.
use mathlib.Core.Bool.{Bool, true, false, not}
use mathlib.Core.Path.{◌≡◌, refl, sym, ap, subst, ◌∙◌}
use mathlib.Core.List.{List}
use Prim.Native.Nat.{ℕ, ◌+◌, ◌-◌, ◌<◌}
use native.Mathlib.Nat.{sub-zero}
use native.Mathlib.Omega.{arith}
use lib.Dec.{eqb}
use lib.ListN.{length, take, drop}
use lib.Pointwise.{pointwise}
use borrow.Author.Tests.{not-true, not-false}
use Rattle.std.specs.Prelude.{Option, Result}
use Rattle.lists.specs.Places.{same}
use Rattle.lines.specs.Lines.{asks, numbers}
use Rattle.lines.specs.Words.{piece}
use Rattle.lines.proofs.WordLaws.{piece-part}
use Rattle.readback.specs.Listings.{line_fits}
use Rattle.readback.specs.Scanned.{Scanned}
use Rattle.readback.specs.declared.scanning.Malformed.{Malformed}
use Rattle.lists.proofs.Sameness.{eq-same}
use Rattle.readback.proofs.Texts.{figure_words, step_words, first-names, third-names}
use Rattle.readback.proofs.Scanlines.{Reached, refused, reached-start, reached-missing, reached-bad, reached-next, head-start, head-good}
use Rattle.readback.proofs.scanning.scan_text.Goals as goal

-- what `!=` says of a names line
named : (xs ys zs : List ℕ) (r : Bool) → r ≡ not (pointwise eqb xs zs) → zs ≡ ys → same xs ys ≡ not r
named xs ys zs true h e = ap (same xs) (sym e) ∙ sym (eq-same xs zs) ∙ not-true (pointwise eqb xs zs) (sym h)
named xs ys zs false h e = ap (same xs) (sym e) ∙ sym (eq-same xs zs) ∙ not-false (pointwise eqb xs zs) (sym h)

abbrev Ends : List ℕ → ℕ → ℕ → Type 0
Ends text at end = (end ≡ at + length (piece 10 text at)) × (end < length text)

-- the first three lines, each from what the code asks of it
first-fits : (text : List ℕ) (end : ℕ) {names : List ℕ} {differ : Bool} → Ends text 0 end → differ ≡ not (pointwise eqb (take end text) names) → names ≡ figure_words
    → line_fits 1 (piece 10 text 0) ≡ not differ
first-fits text end {names} {differ} ends ne e =
    let line = ap (λ (n : ℕ). take n text) (sym (sub-zero end)) ∙ piece-part 10 text 0 end ends.0 in
    first-names (piece 10 text 0) ∙ ap (λ (xs : List ℕ). same xs figure_words) (sym line) ∙ named (take end text) figure_words names differ ne e

second-fits : (text : List ℕ) (at end count : ℕ) {read : Bool} → Ends text at end → read ≡ asks 7 count (take (end - at) (drop at text)) → count ≡ 3
    → line_fits 2 (piece 10 text at) ≡ read
unfolding line_fits
second-fits text at end count ends read three =
    sym (read ∙ ap (λ (n : ℕ). asks 7 n (take (end - at) (drop at text))) three ∙ ap (asks 7 3) (piece-part 10 text at end ends.0))

third-fits : (text : List ℕ) (at end : ℕ) {names : List ℕ} {differ : Bool} → Ends text at end → differ ≡ not (pointwise eqb (take (end - at) (drop at text)) names)
    → names ≡ step_words → line_fits 3 (piece 10 text at) ≡ not differ
third-fits text at end {names} {differ} ends ne e =
    third-names (piece 10 text at)
    ∙ ap (λ (xs : List ℕ). same xs step_words) (sym (piece-part 10 text at end ends.0))
    ∙ named (take (end - at) (drop at text)) step_words names differ ne e

first : (text : List ℕ) → Reached text 0 1 0 1
first text = reached-start text 0 1 (omega arith)

second : (text : List ℕ) (end : ℕ) {names : List ℕ} {differ : Bool} → Ends text 0 end → differ ≡ not (pointwise eqb (take end text) names) → names ≡ figure_words
    → differ ≡ false → Reached text 0 1 (end + 1) 2
second text end ends ne e alike = reached-next (first text) end ends.0 ends.1 (first-fits text end ends ne e ∙ ap not alike)

third : (text : List ℕ) (at end count : ℕ) {read : Bool} → Reached text 0 1 at 2 → Ends text at end → read ≡ asks 7 count (take (end - at) (drop at text)) → count ≡ 3
    → read ≡ true → Reached text 0 1 (end + 1) 3
third text at end count r ends read three whole = reached-next r end ends.0 ends.1 (second-fits text at end count ends read three ∙ whole)

pub returns-in_err-first : goal.returns-in_err-first
returns-in_err-first c =
    let a = c.args in
    let missing = c.in_err-first.ensures.err in
    let line = head-start a.text.now ∙ reached-missing (first a.text.now) _ refl missing.1 (λ h. absurd (omega arith)) ∙ sym missing.0 in
    subst (λ (r : Result (Option ℕ) Malformed). Scanned r a.text.now a.figures.now a.steps.now)
    (sym (refused c.from_residual.result c.in_err-first.field-0.0 c.from_residual.ensures)) (line, omega (arith, missing.0))

pub returns-then-ne : goal.returns-then-ne
returns-then-ne c =
    let text = c.args.text.now in
    let ends = c.in_ok-first.ensures.ok in
    let other = first-fits text _ ends c.ne.ensures c.as_slice.ensures ∙ ap not c.if-ne.true in
    (head-start text ∙ reached-bad (first text) _ ends.0 ends.1 other, omega arith)

pub returns-in_err-second : goal.returns-in_err-second
returns-in_err-second c =
    let a = c.args in
    let missing = c.in_err-second.ensures.err in
    let at2 = second a.text.now _ c.in_ok-first.ensures.ok c.ne.ensures c.as_slice.ensures c.if-ne.false in
    let line = head-start a.text.now ∙ reached-missing at2 _ refl missing.1 (λ h. absurd (omega arith)) ∙ sym missing.0 in
    subst (λ (r : Result (Option ℕ) Malformed). Scanned r a.text.now a.figures.now a.steps.now)
    (sym (refused c.from_residual-in_err-second.result c.in_err-second.field-0.0 c.from_residual-in_err-second.ensures)) (line, omega (arith, missing.0))

pub returns-then-not-read_line : goal.returns-then-not-read_line
returns-then-not-read_line c =
    let text = c.args.text.now in
    let ends = c.in_ok-second.ensures.ok in
    let at2 = second text _ c.in_ok-first.ensures.ok c.ne.ensures c.as_slice.ensures c.if-ne.false in
    let other = second-fits text _ _ _ ends c.read_line.ensures.0 c.requires ∙ c.if-not-read_line.true in
    (head-start text ∙ reached-bad at2 _ ends.0 ends.1 other, omega arith)

pub returns-in_err-third : goal.returns-in_err-third
returns-in_err-third c =
    let a = c.args in
    let missing = c.in_err-third.ensures.err in
    let at2 = second a.text.now _ c.in_ok-first.ensures.ok c.ne.ensures c.as_slice.ensures c.if-ne.false in
    let at3 = third a.text.now _ _ _ at2 c.in_ok-second.ensures.ok c.read_line.ensures.0 c.requires c.if-not-read_line.false in
    let line = head-start a.text.now ∙ reached-missing at3 _ refl missing.1 (λ h. absurd (omega arith)) ∙ sym missing.0 in
    subst (λ (r : Result (Option ℕ) Malformed). Scanned r a.text.now c.read_line.new.out a.steps.now)
    (sym (refused c.from_residual-in_err-third.result c.in_err-third.field-0.0 c.from_residual-in_err-third.ensures)) (line, omega (arith, missing.0))

pub returns-then-ne-2 : goal.returns-then-ne-2
returns-then-ne-2 c =
    let text = c.args.text.now in
    let ends = c.in_ok-third.ensures.ok in
    let at2 = second text _ c.in_ok-first.ensures.ok c.ne.ensures c.as_slice.ensures c.if-ne.false in
    let at3 = third text _ _ _ at2 c.in_ok-second.ensures.ok c.read_line.ensures.0 c.requires c.if-not-read_line.false in
    let other = third-fits text _ _ ends c.ne-2.ensures c.as_slice-2.ensures ∙ ap not c.if-ne-2.true in
    (head-start text ∙ reached-bad at3 _ ends.0 ends.1 other, omega arith)

pub returns : goal.returns
returns c =
    let text = c.args.text.now in
    let ends1 = c.in_ok-first.ensures.ok in
    let ends2 = c.in_ok-second.ensures.ok in
    let ends3 = c.in_ok-third.ensures.ok in
    let at2 = second text _ ends1 c.ne.ensures c.as_slice.ensures c.if-ne.false in
    let at3 = third text _ _ _ at2 ends2 c.read_line.ensures.0 c.requires c.if-not-read_line.false in
    let names = third-fits text _ _ ends3 c.ne-2.ensures c.as_slice-2.ensures ∙ ap not c.if-ne-2.false in
    let all = head-start text ∙ (reached-next at3 _ ends3.0 ends3.1 names).decides in
    let figures = c.read_line.ensures.1 c.if-not-read_line.false ∙ ap numbers (piece-part 10 text _ _ ends2.0) in
    head-good text _ _ _ ends1.0 ends1.1 ends2.0 ends2.1 ends3.0 ends3.1 c.scan_steps.result _ _ all figures c.scan_steps.ensures
