use Rattle.std.proofs.Common.{◌≡◌, ◌∙◌, ap, arith, false, ◌<◌, ℕ, List, set, ◌+◌, refl, sym}
use mathlib.Core.Bool.{false≢true}
use Rattle.std.specs.Prelude.{Some, None, Option, option_map}
use Rattle.lines.specs.Lines.{asks}
use Rattle.lines.specs.Words.{numeral_at, value_at, next_place, advanced}
use Rattle.lines.specs.declared.cursor.Cursor.{Cursor}
use Rattle.lines.specs.declared.numerals.Numeral.{Numeral}
use Rattle.lines.proofs.Filling.{Filling, filling-start, filling-next, filling-refused, filling-complete}
use Rattle.lines.proofs.reading.read_line.Goals as goal

-- a turn: the cursor reads its number, or finds none
module _ {most : ℕ} {line : List ℕ} {n k : ℕ} {out : List ℕ} (cursor : Cursor) (same : cursor.line.now ≡ line) (room : k < n) (f : Filling most line n out cursor.at k) where
  turned : (v : ℕ) (cursor' : Cursor) → Some v ≡ value_at most cursor.line.now cursor.at → cursor' ≡ advanced most cursor → Filling most line n (set out k v) cursor'.at (k + 1)
  turned v cursor' read moved = rw (moved, same) (by (numeral_at most line cursor.at) refl (read ∙ ap (λ (l : List ℕ). value_at most l cursor.at) same))
    where
      by : (r : Option Numeral) → numeral_at most line cursor.at ≡ r → Some v ≡ option_map (λ (m : Numeral). m.value) r → Filling most line n (set out k v) (next_place r cursor.at) (k + 1)
      by (Some m) h e = let is : v ≡ m.value = cc in rw is (filling-next most line n f room m h)
      by None h e = let z : ◌≡◌ {A = ℕ} 0 1 = cc in absurd (omega arith)

  refused : None ≡ value_at most cursor.line.now cursor.at → false ≡ asks most n line
  refused read = sym (filling-refused most line n f room (by (numeral_at most line cursor.at) (read ∙ ap (λ (l : List ℕ). value_at most l cursor.at) same)))
    where
      by : (r : Option Numeral) → None ≡ option_map (λ (m : Numeral). m.value) r → r ≡ None
      by (Some m) e = let z : ◌≡◌ {A = ℕ} 0 1 = cc in absurd (omega arith)
      by None e = refl

pub loop-place-init : goal.loop-place-init
loop-place-init c =
    let new = c.new-cursor.ensures in
    record { same = rw new.0 refl; filling = rw new.1 (filling-start _ _ _ _ refl) }

pub loop-place-preserved : goal.loop-place-preserved
loop-place-preserved c =
    let loop = c.loop-place in
    let number = c.in-Some.ensures in
    record {
      same = rw number.place loop.invariant.same;
      filling = turned loop.cursor loop.invariant.same c.loop-place-test.true loop.invariant.filling _ _ number.value number.place;
    }

pub returns-in_default : goal.returns-in_default
returns-in_default c =
    let loop = c.loop-place in
    (refused loop.cursor loop.invariant.same c.loop-place-test.true loop.invariant.filling c.in_default.ensures.value, λ yes. absurd (false≢true yes))

pub returns-then-line-lt1024 : goal.returns-then-line-lt1024
returns-then-line-lt1024 c = filling-complete _ _ _ c.loop-place.invariant.filling c.loop-place-test.false c.if-line-lt1024.true
