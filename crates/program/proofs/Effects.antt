-- What the pieces of a program do to the registers.
--     assigned-same, assigned-other, assigned-twice, assigned-as-is     reading and writing one register
--     goes-clear, goes_add, goes-boot           one step
--     goes-adds, goes-sum                       a weighted sum of the registers below r, added to r, and put into r
--     goes-pair                                 the sum of two registers, the second by a weight, put into a third
-- Assumes nothing.
use mathlib.Core.Path.{◌≡◌, refl, sym, ap, ap₂, fun_ext, ◌∙◌}
use mathlib.Core.Bool.{Bool, true, false, cond}
use mathlib.Core.Logic.{◌≢◌}
use mathlib.Core.List.{List, ◌++◌}
use Prim.Native.Nat.{ℕ, zero, suc, ◌+◌, ◌*◌, ◌%◌, ◌≤◌, ◌<◌}
use native.Mathlib.Decide.{ℕ_discrete}
use native.Mathlib.Nat.{add-zero, zero-add, one-mul, mod-eq_of_lt, mod-add-mod}
use native.Mathlib.Omega.{arith}
use lib.Dec.{eqb}
use borrow.Author.Tests.{eq-eqb, ne_eqb}
use Rattle.lists.specs.Places.{sum, joined}
use Rattle.lists.proofs.Sums.{sum-zero, sum-suc, sum-ext}
use Rattle.plan.specs.declared.numbers.Plan.{Plan}
use Rattle.program.specs.Steps.{table_at, Registers, assigned, stepped}
use Rattle.program.specs.Layout.{clear, add, boot, adds}
use Rattle.program.proofs.Pieces.{Goes, goes_then, goes_to, goes_none, goes_step}

pub assigned-same : (f : Registers) (r v : ℕ) → assigned f r v r ≡ v
unfolding assigned
assigned-same f r v = ap (λ (b : Bool). cond b v (f r)) (eq-eqb r r refl)

pub assigned-other : (f : Registers) (r v k : ℕ) → k ≢ r → assigned f r v k ≡ f k
unfolding assigned
assigned-other f r v k ne = ap (λ (b : Bool). cond b v (f k)) (ne_eqb k r ne)

pub assigned-twice : (f : Registers) (r u v : ℕ) → assigned (assigned f r u) r v ≡ assigned f r v
unfolding assigned
assigned-twice f r u v = fun_ext (λ k. twice (eqb k r) (f k))
  where
    twice : (b : Bool) (x : ℕ) → cond b v (cond b u x) ≡ cond b v x
    twice true x = refl
    twice false x = refl

pub assigned-as-is : (f : Registers) (r v : ℕ) → f r ≡ v → assigned f r v ≡ f
assigned-as-is f r v e = fun_ext (λ k. elim (ℕ_discrete k r) [
  | yes h ↦ ap (assigned f r v) h ∙ assigned-same f r v ∙ sym e ∙ ap f (sym h)
  | no h ↦ assigned-other f r v k h
])

module _ (P : Plan) (T : List ℕ) where
  pub goes-clear : (f : Registers) (r : ℕ) → Goes P T (clear r) f (assigned f r 0)
  unfolding stepped
  goes-clear f r = goes_step P T f 0 r 0 0

  pub goes_add : (f : Registers) (r s b : ℕ) → Goes P T (add r s b) f (assigned f r ((f r + b * f s) % P.p))
  unfolding stepped
  goes_add f r s b = goes_step P T f 1 r s b

  pub goes-boot : (f : Registers) (r k : ℕ) → Goes P T (boot r k) f (assigned f r (table_at P T k (f r)))
  unfolding stepped
  goes-boot f r k = goes_step P T f 2 r r k

  pub goes-adds : (f : Registers) (r : ℕ) (g : ℕ → ℕ) (n : ℕ) → n ≤ r → f r < P.p
      → Goes P T (adds r g n) f (assigned f r ((f r + sum (λ j. g j * f j) n) % P.p))
  unfolding adds joined
  goes-adds f r g zero h small =
      goes_to P T (goes_none P T f)
      (sym (assigned-as-is f r _ (sym (ap (λ (z : ℕ). (f r + z) % P.p) (sum-zero (λ j. g j * f j)) ∙ ap (λ (z : ℕ). z % P.p) (add-zero (f r)) ∙ mod-eq_of_lt small))))
  goes-adds f r g (suc n) h small =
      let x : ℕ = (f r + sum (λ j. g j * f j) n) % P.p in
      goes_to P T
      (goes_then P T (goes-adds f r g n (omega arith) small) (goes_add (assigned f r x) r n (g n)))
      (assigned-twice f r x ((assigned f r x r + g n * assigned f r x n) % P.p) ∙ ap (assigned f r) (turn x refl))
    where
      turn : (x : ℕ) → x ≡ (f r + sum (λ j. g j * f j) n) % P.p → (assigned f r x r + g n * assigned f r x n) % P.p ≡ (f r + sum (λ j. g j * f j) (suc n)) % P.p
      turn x e =
          ap₂ (λ (a b : ℕ). (a + g n * b) % P.p) (assigned-same f r x ∙ e) (assigned-other f r x n (λ same. omega arith))
          ∙ mod-add-mod (f r + sum (λ j. g j * f j) n) P.p (g n * f n)
          ∙ ap (λ (z : ℕ). z % P.p) (rw sum-suc (omega arith))

  -- register r cleared and the weighted sum of the registers before it added
  pub goes-sum : (f : Registers) (r : ℕ) (g : ℕ → ℕ) (n : ℕ) → n ≤ r → 0 < P.p
      → Goes P T (clear r ++ adds r g n) f (assigned f r (sum (λ j. g j * f j) n % P.p))
  goes-sum f r g n h pos =
      goes_to P T
      (goes_then P T (goes-clear f r) (goes-adds (assigned f r 0) r g n h (rw (assigned-same f r 0) pos)))
      (assigned-twice f r 0 _ ∙ ap (assigned f r) value)
    where
      value : (assigned f r 0 r + sum (λ j. g j * assigned f r 0 j) n) % P.p ≡ sum (λ j. g j * f j) n % P.p
      value =
          ap₂ (λ (a b : ℕ). (a + b) % P.p) (assigned-same f r 0)
          (sum-ext (λ j. g j * assigned f r 0 j) (λ j. g j * f j) n (λ j l. ap (λ (z : ℕ). g j * z) (assigned-other f r 0 j (λ same. omega arith))))
          ∙ ap (λ (z : ℕ). z % P.p) (zero-add _)

  -- register r becomes u plus b times v
  pub goes-pair : (f : Registers) (r u v b : ℕ) → u ≢ r → v ≢ r
      → Goes P T (clear r ++ (add r u 1 ++ add r v b)) f (assigned f r ((f u + b * f v) % P.p))
  goes-pair f r u v b hu hv =
      goes_to P T
      (goes_then P T (goes-clear f r) (goes_then P T (goes_add (assigned f r 0) r u 1) (goes_add (assigned (assigned f r 0) r first) r v b)))
      (assigned-twice (assigned f r 0) r first _ ∙ assigned-twice f r 0 _ ∙ ap (assigned f r) value)
    where
      first : ℕ
      first = (assigned f r 0 r + 1 * assigned f r 0 u) % P.p

      value : (assigned (assigned f r 0) r first r + b * assigned (assigned f r 0) r first v) % P.p ≡ (f u + b * f v) % P.p
      value =
          ap₂ (λ (x y : ℕ). (x + b * y) % P.p)
          (assigned-same (assigned f r 0) r first
          ∙ ap₂ (λ (x y : ℕ). (x + 1 * y) % P.p) (assigned-same f r 0) (assigned-other f r 0 u hu)
          ∙ ap (λ (z : ℕ). z % P.p) (zero-add (1 * f u) ∙ one-mul (f u)))
          (assigned-other (assigned f r 0) r first v hv ∙ assigned-other f r 0 v hv)
          ∙ mod-add-mod (f u) P.p (b * f v)
