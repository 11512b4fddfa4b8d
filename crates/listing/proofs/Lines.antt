-- Lines: numbers, each with a space behind it, one after the other, and LF in place of the last space.
--     ended n b                            the digits of n and the byte b
--     spread ns                            numbers with a space behind each, which is their line but for its last byte
--     line-most                            the length of a line
--     spread-none, spread-left, spread-turn, spread-done      a loop that writes them
--     lines-room                           the length of a line for each step
--     step-line                            the line of a step, from the list cut into steps
--     lines_none, lines_left, lines-turn   a loop that writes them
-- Assumes nothing.
use mathlib.Core.Path.{◌≡◌, refl, sym, ap, subst, ◌∙◌}
use mathlib.Core.List.{List, [], ◌∷◌, ◌++◌, append_assoc, append-nil}
use Prim.Native.Nat.{ℕ, zero, suc, ◌+◌, ◌-◌, ◌*◌, ◌/◌, ◌≤◌, ◌<◌}
use native.Mathlib.Nat.{add-zero}
use native.Mathlib.Numerals.{add-one}
use native.Mathlib.Omega.{arith}
use lib.ListN.{length, get_or, take, set, length-append}
use lib.Seq.{take-suc, length-take-le, set-set}
use Rattle.std.specs.Simd.{first_chunks}
use Rattle.lists.specs.Places.{joined, placed, at}
use Rattle.program.proofs.Lists.{step-number}
use Rattle.listing.specs.Decimal.{decimal, spaced, line}
use Rattle.listing.specs.Printed.{step_line}
use Rattle.listing.proofs.Digits.{decimal-most, decimal-small}
use Rattle.listing.proofs.Puts.{Put, put_as, put_byte, put_next, put-length, left-none}

abbrev pub ended : ℕ → ℕ → List ℕ
ended n b = decimal n ++ (b ∷ [])

ended-most : (n b : ℕ) → length (ended n b) ≤ 21
ended-most n b = rw length-append (omega (arith, decimal-most n))

-- numbers, a space behind each
unfoldable pub spread : List ℕ → List ℕ
spread [] = []
spread (n ∷ ns) = ended n 32 ++ spread ns

spread-append : (xs ys : List ℕ) → spread (xs ++ ys) ≡ spread xs ++ spread ys
unfolding spread
spread-append [] ys = refl
spread-append (x ∷ xs) ys =
    ap (λ (l : List ℕ). ended x 32 ++ l) (spread-append xs ys) ∙ sym (append_assoc (ended x 32) (spread xs) (spread ys))

spread-next : (ns : List ℕ) (i : ℕ) → i < length ns → spread (take (i + 1) ns) ≡ spread (take i ns) ++ ended (at ns i) 32
unfolding spread
spread-next ns i h =
    rw (add-one, take-suc ns i 0 h)
    (spread-append (take i ns) (at ns i ∷ []) ∙ ap (λ (l : List ℕ). spread (take i ns) ++ l) (append-nil (ended (at ns i) 32)))

spread-most : (ns : List ℕ) → length (spread ns) ≤ 21 * length ns
unfolding spread
spread-most [] = omega arith
spread-most (n ∷ ns) = rw length-append (omega (arith, ended-most n 32, spread-most ns))

-- the line of some numbers is that, but for its last byte
spread-spaced : (n : ℕ) (ns : List ℕ) → spread (n ∷ ns) ≡ spaced (n ∷ ns) ++ (32 ∷ [])
unfolding spread spaced
spread-spaced n [] = simp (append-nil)
spread-spaced n (m ∷ ns) =
    ap (λ (l : List ℕ). ended n 32 ++ l) (spread-spaced m ns)
    ∙ simp append_assoc

line-length : (ns : List ℕ) → 0 < length ns → length (line ns) ≡ length (spread ns)
unfolding line
line-length [] h = absurd (omega arith)
line-length (n ∷ ns) h = rw (spread-spaced n ns) (simp length-append)

pub line-most : (ns : List ℕ) → 0 < length ns → length (line ns) ≤ 21 * length ns
line-most ns h = omega (arith, line-length ns h, spread-most ns)

-- a loop that writes them, and the last byte
pub spread-none : (ns e : List ℕ) (k : ℕ) → k ≤ length e → Put e k (spread (take 0 ns)) e k
unfolding spread
spread-none ns e k h = (left-none 0 e k (omega arith)).put

pub spread-left : {e out : List ℕ} {k next : ℕ} (ns : List ℕ) (i : ℕ) → Put e k (spread (take i ns)) out next → i < length ns
    → k + 21 * length ns ≤ length e → next + 21 ≤ length out
spread-left ns i p h room = omega (arith, p.ends, put-length p, spread-most (take i ns), length-take-le i ns (omega arith))

pub spread-turn : {e out : List ℕ} {k next : ℕ} (ns : List ℕ) (i : ℕ) {after : List ℕ} {further : ℕ} → Put e k (spread (take i ns)) out next
    → i < length ns → k + 21 * length ns ≤ length e
    → after ≡ placed out next (ended (at ns i) 32) → further ≡ next + length (ended (at ns i) 32) → Put e k (spread (take (i + 1) ns)) after further
spread-turn {e} {out} {k} {next} ns i {after} {further} p h room ha hf =
    let most = ended-most (at ns i) 32 in
    put_as (sym (spread-next ns i h))
    (put_next (ended (at ns i) 32) p ha hf (omega (arith, spread-left ns i p h room, put-length p)))

pub spread-done : {e out : List ℕ} {k next : ℕ} (ns : List ℕ) → Put e k (spread ns) out next → 0 < length ns
    → (0 < next) × (next ≤ length out) × Put e k (line ns) (set out (next - 1) 10) next
unfolding line
spread-done {e} {out} {k} {next} [] p h = absurd (omega arith)
spread-done {e} {out} {k} {next} (n ∷ ns) p h =
    let front = spaced (n ∷ ns) in
    let q : Put e k (front ++ (32 ∷ [])) out next = put_as (spread-spaced n ns) p in
    let long : length (front ++ (32 ∷ [])) ≡ length front + 1 = simp length-append in
    let before : Put e k front (placed e k front) (next - 1) = record { list = refl; ends = omega (arith, q.ends, long); room = omega (arith, q.room, long) } in
    let within : next - 1 < length e = omega (arith, q.ends, q.room, long) in
    let space = put_byte 32 before within in
    let same : set (set (placed e k front) (next - 1) 32) (next - 1) 10 ≡ set (placed e k front) (next - 1) 10 = set-set (placed e k front) (next - 1) 32 10 in
    let over : set out (next - 1) 10 ≡ set (placed e k front) (next - 1) 10 = ap (λ (l : List ℕ). set l (next - 1) 10) (q.list ∙ sym space.list) ∙ same in
    let lf = put_byte 10 before within in
    (omega (arith, q.ends, long), omega (arith, q.ends, q.room, put-length q), record { list = over ∙ lf.list; ends = omega (arith, lf.ends, q.ends, long, simp length-append at lf.ends); room = lf.room })

line_small : (a b c d : ℕ) → a < 1000 → b < 1000 → c < 1000 → d < 1000 → length (line (a ∷ b ∷ c ∷ d ∷ [])) ≤ 16
unfolding spread
line_small a b c d ha hb hc hd =
    rw (line-length (a ∷ b ∷ c ∷ d ∷ []) (omega arith))
    (simp length-append (omega (arith, decimal-small a ha, decimal-small b hb, decimal-small c hc, decimal-small d hd)))

pub lines-room : (steps : List ℕ) → ((i : ℕ) → at steps i < 1000) → (n : ℕ) → length (joined (step_line steps) n) ≤ 16 * n
unfolding joined
lines-room steps small zero = omega arith
lines-room steps small (suc n) =
    rw length-append
    (omega (arith, lines-room steps small n, line_small (at steps (4 * n)) (at steps (4 * n + 1)) (at steps (4 * n + 2)) (at steps (4 * n + 3)) (small (4 * n)) (small (4 * n + 1)) (small (4 * n + 2)) (small (4 * n + 3))))

pub step-line : (steps : List ℕ) (chunks : List (List ℕ)) (i : ℕ) → chunks ≡ first_chunks 4 (length steps / 4) steps → i < length steps / 4
    → line (at (get_or chunks i []) 0 ∷ at (get_or chunks i []) 1 ∷ at (get_or chunks i []) 2 ∷ at (get_or chunks i []) 3 ∷ []) ≡ step_line steps i
step-line steps chunks i cut h =
    let number : (j : ℕ) → j < 4 → at (get_or (first_chunks 4 (length steps / 4) steps) i []) j ≡ at steps (4 * i + j) =
    λ j l. step-number (length steps / 4) steps i j h l in
    rw (cut, number 0 (omega arith), number 1 (omega arith), number 2 (omega arith), number 3 (omega arith), add-zero (4 * i)) refl

-- a loop that writes the lines
module _ (steps : List ℕ) (small : (i : ℕ) → at steps i < 1000) where
  pub lines_none : (e : List ℕ) (k : ℕ) → k ≤ length e → Put e k (joined (step_line steps) 0) e k
  unfolding joined
  lines_none e k h = (left-none 0 e k (omega arith)).put

  pub lines_left : {e out : List ℕ} {k next : ℕ} (i : ℕ) → Put e k (joined (step_line steps) i) out next → i < length steps / 4
      → k + 16 * (length steps / 4) + 84 ≤ length e → next + 84 ≤ length out
  lines_left i p h room = omega (arith, p.ends, put-length p, lines-room steps small i)

  pub lines-turn : {e out : List ℕ} {k next : ℕ} (i : ℕ) {after : List ℕ} {further : ℕ} → Put e k (joined (step_line steps) i) out next
      → i < length steps / 4 → k + 16 * (length steps / 4) + 84 ≤ length e
      → after ≡ placed out next (step_line steps i) → further ≡ next + length (step_line steps i) → Put e k (joined (step_line steps) (i + 1)) after further
  unfolding joined
  lines-turn {e} {out} {k} {next} i {after} {further} p h room ha hf =
      let short = line_small (at steps (4 * i)) (at steps (4 * i + 1)) (at steps (4 * i + 2)) (at steps (4 * i + 3)) (small (4 * i)) (small (4 * i + 1)) (small (4 * i + 2)) (small (4 * i + 3)) in
      subst (λ (n : ℕ). Put e k (joined (step_line steps) n) after further) (sym (add-one i))
      (put_next (step_line steps i) p ha hf (omega (arith, p.ends, lines-room steps small i, short)))
