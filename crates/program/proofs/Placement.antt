-- Writing pieces into the caller's slice, one behind the other (`Fits` and `Wrote` of specs/Placed.antt).
--     stepped                        the four stores of a step
--     wrote_none                     nothing
--     room-front, wrote-fits         the room for two pieces: for the first, and for the second once the first is written
--     wrote_then, wrote-3, wrote-4, wrote-6       two and more pieces one behind the other
--     wrote_as                       the same piece in other words
--     none-joined, next-fits, wrote-next       a loop over a list of pieces
--     adds_none, adds-fits, adds-next          a loop over the steps of a sum
--     adds-cut                       the sum over a part of a list of weights
--     sum_steps                      a sum's piece as the code writes it
--     link-split, product-split, layout-split       a link, a product and the program in the order of the calls
-- Assumes nothing.
use mathlib.Core.Path.{◌≡◌, refl, sym, ap, ap₂, subst, ◌∙◌}
use mathlib.Core.List.{List, [], ◌++◌, append_assoc}
use Prim.Native.Nat.{ℕ, suc, ◌+◌, ◌-◌, ◌*◌, ◌≤◌, ◌<◌}
use native.Mathlib.Nat.{add-zero, add-sub_cancel_left}
use native.Mathlib.Numerals.{add-one}
use native.Mathlib.Omega.{arith}
use lib.ListN.{length, set, take, drop, length-append}
use lib.Seq.{sets-eq}
use Rattle.lists.specs.Places.{joined, placed, at}
use Rattle.lists.proofs.Joins.{joined-next, joined-mono, joined-ext}
use Rattle.lists.proofs.Placing.{placed-nothing, placed-placed}
use Rattle.lists.proofs.Parts.{cut-length, part_at}
use Rattle.plan.specs.Numbers.{variables}
use Rattle.plan.specs.Parts.{link_start}
use Rattle.plan.specs.declared.numbers.Plan.{Plan}
use Rattle.program.specs.Layout.{step, clear, add, boot, adds, link_steps, square_steps, product_steps, layout}
use Rattle.program.specs.declared.writing.Writer.{Writer}
use Rattle.program.specs.Placed.{Room, Fits, Wrote}

pub room-front : (out : List ℕ) (k : ℕ) (xs ys : List ℕ) → Room out k (xs ++ ys) → Room out k xs
room-front out k xs ys h = omega (arith, length-append xs ys, h)

pub wrote_as : {w v : Writer} {xs ys : List ℕ} → xs ≡ ys → Wrote w xs v → Wrote w ys v
wrote_as {w} {v} e h = subst (λ (zs : List ℕ). Wrote w zs v) e h

pub wrote-fits : {w v : Writer} (xs ys : List ℕ) → Fits w (xs ++ ys) → Wrote w xs v → Fits v ys
wrote-fits {w} {v} xs ys room h = omega (arith, h.size, h.next, length-append xs ys, room)

pub wrote_then : {w v u : Writer} (xs ys : List ℕ) → Fits w (xs ++ ys) → Wrote w xs v → Wrote v ys u → Wrote w (xs ++ ys) u
wrote_then {w} {v} {u} xs ys room h k =
    record {
      next = k.next ∙ omega (arith, h.next, length-append xs ys);
      list =
          k.list
          ∙ ap₂ (λ (l : List ℕ) (n : ℕ). placed l n ys) h.list h.next
          ∙ placed-placed w.out.now w.at xs ys (room-front w.out.now w.at xs ys room);
      size = k.size ∙ h.size;
      same = k.same ∙ h.same;
    }

-- a step's four stores put it in its place
pub stepped : (out : List ℕ) (k kind to from by : ℕ) → Room out k (step kind to from by)
    → set (set (set (set out k kind) (k + 1) to) (k + 2) from) (k + 3) by ≡ placed out k (step kind to from by)
stepped out k kind to from by room =
    ap (λ (n : ℕ). set (set (set (set out k kind) n to) (k + 2) from) (k + 3) by) one
    ∙ ap₂ (λ (n m : ℕ). set (set (set (set out k kind) (suc k) to) n from) m by) two three
    ∙ sets-eq (step kind to from by) out k room
    ∙ append_assoc (take k out) (step kind to from by) (drop (k + 4) out)
  where
    one : k + 1 ≡ suc k
    one = add-one k

    two : k + 2 ≡ suc (suc k)
    two = omega arith

    three : k + 3 ≡ suc (suc (suc k))
    three = omega arith

pub wrote_none : (w : Writer) → Wrote w [] w
wrote_none w = record { next = sym (add-zero w.at); list = sym (placed-nothing w.out.now w.at); size = refl; same = refl }

-- three, four and six pieces one behind the other
pub wrote-3 : {w₀ w₁ w₂ w₃ : Writer} (a b c : List ℕ) → Fits w₀ (a ++ (b ++ c))
    → Wrote w₀ a w₁ → Wrote w₁ b w₂ → Wrote w₂ c w₃ → Wrote w₀ (a ++ (b ++ c)) w₃
wrote-3 a b c room wa wb wc = wrote_then a (b ++ c) room wa (wrote_then b c (wrote-fits a (b ++ c) room wa) wb wc)

pub wrote-4 : {w₀ w₁ w₂ w₃ w₄ : Writer} (a b c d : List ℕ) → Fits w₀ (a ++ (b ++ (c ++ d)))
    → Wrote w₀ a w₁ → Wrote w₁ b w₂ → Wrote w₂ c w₃ → Wrote w₃ d w₄ → Wrote w₀ (a ++ (b ++ (c ++ d))) w₄
wrote-4 a b c d room wa wb wc wd = wrote_then a (b ++ (c ++ d)) room wa (wrote-3 b c d (wrote-fits a (b ++ (c ++ d)) room wa) wb wc wd)

pub wrote-6 : {w₀ w₁ w₂ w₃ w₄ w₅ w₆ : Writer} (a b c d e f : List ℕ) → Fits w₀ (a ++ (b ++ (c ++ (d ++ (e ++ f)))))
    → Wrote w₀ a w₁ → Wrote w₁ b w₂ → Wrote w₂ c w₃ → Wrote w₃ d w₄ → Wrote w₄ e w₅ → Wrote w₅ f w₆
    → Wrote w₀ (a ++ (b ++ (c ++ (d ++ (e ++ f))))) w₆
wrote-6 a b c d e f room wa wb wc wd we wf =
    let rest = wrote-fits a (b ++ (c ++ (d ++ (e ++ f)))) room wa in
    wrote_then a (b ++ (c ++ (d ++ (e ++ f)))) room wa
    (wrote_then b (c ++ (d ++ (e ++ f))) rest wb (wrote-4 c d e f (wrote-fits b (c ++ (d ++ (e ++ f))) rest wb) wc wd we wf))

-- a list of pieces
joined-fits : (F : ℕ → List ℕ) (w : Writer) (j n : ℕ) → j < n → Fits w (joined F n) → Fits w (joined F j ++ F j)
joined-fits F w j n h room =
    omega (arith, joined-mono F (j + 1) n (omega arith), ap length (joined-next F j), room)

-- the turn of a loop over the pieces
pub wrote-next : {w v u : Writer} (F : ℕ → List ℕ) (j n : ℕ) → j < n → Fits w (joined F n)
    → Wrote w (joined F j) v → Wrote v (F j) u → Wrote w (joined F (j + 1)) u
wrote-next {w} F j n h room a b = wrote_as (sym (joined-next F j)) (wrote_then (joined F j) (F j) (joined-fits F w j n h room) a b)

pub next-fits : {w v : Writer} (F : ℕ → List ℕ) (j n : ℕ) → j < n → Fits w (joined F n) → Wrote w (joined F j) v → Fits v (F j)
next-fits {w} F j n h room a = wrote-fits (joined F j) (F j) (joined-fits F w j n h room) a

pub none-joined : (w : Writer) (F : ℕ → List ℕ) → Wrote w (joined F 0) w
unfolding joined
none-joined w F = wrote_none w

-- the sum's steps, weight by weight
module _ (r : ℕ) (g : ℕ → ℕ) where
  pub adds_none : (w : Writer) → Wrote w (adds r g 0) w
  unfolding adds
  adds_none w = none-joined w (λ j. add r j (g j))

  pub adds-fits : {w v : Writer} (j n : ℕ) → j < n → Fits w (adds r g n) → Wrote w (adds r g j) v → Fits v (add r j (g j))
  unfolding adds
  adds-fits j n h room a = next-fits (λ i. add r i (g i)) j n h room a

  pub adds-next : {w v u : Writer} (j n : ℕ) → j < n → Fits w (adds r g n)
      → Wrote w (adds r g j) v → Wrote v (add r j (g j)) u → Wrote w (adds r g (j + 1)) u
  unfolding adds
  adds-next j n h room a b = wrote-next (λ i. add r i (g i)) j n h room a b

-- weights from a part of a list
pub adds-cut : (r : ℕ) (ws : List ℕ) (a l : ℕ) → a + l ≤ length ws
    → adds r (at (take (a + l - a) (drop a ws))) (length (take (a + l - a) (drop a ws))) ≡ adds r (λ j. at ws (a + j)) l
unfolding adds
adds-cut r ws a l h =
    rw (cut-length ws a l h, add-sub_cancel_left)
    (joined-ext (λ j. add r j (at (take l (drop a ws)) j)) (λ j. add r j (at ws (a + j))) l
    (λ j k. ap (add r j) (part_at ws a l j k)))

-- a sum's piece as the code writes it, from the l weights behind place a of a list
abbrev pub sum_steps : ℕ → List ℕ → ℕ → ℕ → List ℕ
sum_steps r ws a l = clear r ++ adds r (at (take (a + l - a) (drop a ws))) (length (take (a + l - a) (drop a ws)))

-- a link, a product and the program in the order of the calls
module _ (P : Plan) where
  pub link-split : (w : List ℕ) (a k : ℕ) → a + (P.n + k) ≤ length w → a ≡ link_start P k
      → sum_steps (P.n + k) w a (P.n + k) ++ boot (P.n + k) k ≡ link_steps P w k
  unfolding link_steps
  link-split w a k room e =
      ap (λ (xs : List ℕ). clear (P.n + k) ++ (xs ++ boot (P.n + k) k))
      (adds-cut (P.n + k) w a (P.n + k) room ∙ ap (λ (b : ℕ). adds (P.n + k) (λ j. at w (b + j)) (P.n + k)) e)

  pub product-split : (d β : List ℕ) (a l i : ℕ) → a + l ≤ length d → a + l ≤ length β → a ≡ i * variables P → l ≡ variables P
      → sum_steps l β a l ++ (sum_steps (l + 1) d a l ++ square_steps l P.m (P.p - 1)) ≡ product_steps P d β i
  unfolding product_steps
  product-split d β a l i room-d room-β ea el =
      rw (adds-cut l β a l room-β, adds-cut (l + 1) d a l room-d, ea, el)

  pub layout-split : (w d β : List ℕ) (a l : ℕ) → a + l ≤ length β → a ≡ P.t * variables P → l ≡ variables P
      → joined (link_steps P w) P.m ++ (clear (l + 4) ++ (joined (product_steps P d β) P.t ++ adds (l + 4) (at (take (a + l - a) (drop a β))) (length (take (a + l - a) (drop a β)))))
      ≡ layout P w d β
  unfolding layout
  layout-split w d β a l room ea el = rw (adds-cut (l + 4) β a l room, ea, el)
