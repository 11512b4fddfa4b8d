-- Bytes that are cut at every c, and pieces that are put together again.
--     lacks c xs          no byte of xs is c, as a test; `lacks-append`: nor of two strings
--     cut-some            there is always a first piece
--     cut-at, cut-end     bytes that lack c are one piece, before a c and at the end
--     glued c pieces      the pieces with a c between
--     glue-cut            a string is its pieces, put together
-- Assumes nothing.
use mathlib.Core.Path.{◌≡◌, refl, sym, ap, ap₂, ◌∙◌}
use mathlib.Core.Bool.{Bool, true, false, cond, not, ◌&&◌}
use mathlib.Core.List.{List, [], ◌∷◌, ◌++◌}
use Prim.Native.Nat.{ℕ}
use lib.Dec.{eqb}
use borrow.Author.Tests.{eq-eqb, eqb-true, not-true}
use Rattle.lists.proofs.Tests.{both, both_true}
use Rattle.lines.specs.Lines.{onto, cut_at}

unfoldable pub lacks : ℕ → List ℕ → Bool
lacks c [] = true
lacks c (x ∷ xs) = not (eqb x c) && lacks c xs

pub lacks-append : (c : ℕ) (xs ys : List ℕ) → lacks c xs ≡ true → lacks c ys ≡ true → lacks c (xs ++ ys) ≡ true
unfolding lacks
lacks-append c [] ys a b = b
lacks-append c (x ∷ xs) ys a b =
    let h = both_true (not (eqb x c)) (lacks c xs) a in
    both (not (eqb x c)) (lacks c (xs ++ ys)) h.0 (lacks-append c xs ys h.1 b)

pub record Some (c : ℕ) (xs : List ℕ) : Type 0 where
  pub one : List ℕ
  pub others : List (List ℕ)
  pub pieces : cut_at c xs ≡ one ∷ others

pub cut-some : (c : ℕ) (xs : List ℕ) → Some c xs
unfolding cut_at
cut-some c [] = record { one = []; others = []; pieces = refl }
cut-some c (x ∷ xs) = by (eqb x c) refl (cut-some c xs)
  where
    by : (b : Bool) → eqb x c ≡ b → Some c xs → Some c (x ∷ xs)
    by true e s = record { one = []; others = cut_at c xs; pieces = rw e }
    by false e s = record { one = x ∷ s.one; others = s.others; pieces = rw (e, s.pieces) }

pub cut-at : (c : ℕ) (xs ys : List ℕ) → lacks c xs ≡ true → cut_at c (xs ++ (c ∷ ys)) ≡ xs ∷ cut_at c ys
unfolding cut_at lacks
cut-at c [] ys a = rw (eq-eqb c c refl)
cut-at c (x ∷ xs) ys a =
    let h = both_true (not (eqb x c)) (lacks c xs) a in
    rw (not-true (eqb x c) h.0, cut-at c xs ys h.1)

pub cut-end : (c : ℕ) (xs : List ℕ) → lacks c xs ≡ true → cut_at c xs ≡ xs ∷ []
unfolding cut_at lacks
cut-end c [] a = refl
cut-end c (x ∷ xs) a =
    let h = both_true (not (eqb x c)) (lacks c xs) a in
    rw (not-true (eqb x c) h.0, cut-end c xs h.1)

unfoldable pub glued : ℕ → List (List ℕ) → List ℕ
glued c [] = []
glued c (one ∷ []) = one
glued c (one ∷ (more ∷ pieces)) = one ++ (c ∷ glued c (more ∷ pieces))

glue-onto : (c x : ℕ) (one : List ℕ) (pieces : List (List ℕ)) → glued c (onto x (one ∷ pieces)) ≡ x ∷ glued c (one ∷ pieces)
unfolding glued
glue-onto c x one [] = refl
glue-onto c x one (more ∷ pieces) = refl

pub glue-cut : (c : ℕ) (xs : List ℕ) → glued c (cut_at c xs) ≡ xs
unfolding cut_at glued
glue-cut c [] = refl
glue-cut c (x ∷ xs) =
    let s = cut-some c xs in
    let rest : glued c (s.one ∷ s.others) ≡ xs = ap (glued c) (sym s.pieces) ∙ glue-cut c xs in
    by (eqb x c) refl s.one s.others s.pieces rest
  where
    by : (b : Bool) → eqb x c ≡ b → (one : List ℕ) (others : List (List ℕ)) → cut_at c xs ≡ one ∷ others → glued c (one ∷ others) ≡ xs
        → glued c (cond (eqb x c) ([] ∷ cut_at c xs) (onto x (cut_at c xs))) ≡ x ∷ xs
    by true e one others p h = rw (e, p) (ap₂ ◌∷◌ (sym (eqb-true x c e)) h)
    by false e one others p h = rw (e, p) (glue-onto c x one others ∙ ap (λ (ys : List ℕ). x ∷ ys) h)
