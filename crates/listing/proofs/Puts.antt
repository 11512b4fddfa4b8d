-- Writing one list behind the other. `Put e k xs out next`: the list e has had xs written over it from place k on, which gives out,
-- and next is the place behind.
--     put_next, put_byte     one list more, one byte more
--     put_as                 the same list in other words
--     put-length             the list keeps its length
--     Left, left-none, left-next      nothing yet, and one list more, with room for more bytes behind
-- Assumes nothing.
use mathlib.Core.Path.{◌≡◌, refl, sym, ap, ap₂, subst, ◌∙◌}
use mathlib.Core.List.{List, [], ◌∷◌, ◌++◌}
use Prim.Native.Nat.{ℕ, ◌+◌, ◌≤◌, ◌<◌}
use native.Mathlib.Omega.{arith}
use lib.ListN.{length, set, length-append}
use Rattle.lists.specs.Places.{placed}
use Rattle.lists.proofs.Placing.{placed-length, placed-nothing, placed-placed, placed-set}

pub record Put (e : List ℕ) (k : ℕ) (xs out : List ℕ) (next : ℕ) : Type 0 where
  pub list : out ≡ placed e k xs
  pub ends : next ≡ k + length xs
  pub room : k + length xs ≤ length e

pub put-length : {e xs out : List ℕ} {k next : ℕ} → Put e k xs out next → length out ≡ length e
put-length {e} {xs} {out} {k} p = ap length p.list ∙ placed-length e k xs p.room

pub put_next : {e xs out : List ℕ} {k next : ℕ} (ys : List ℕ) {after : List ℕ} {further : ℕ} → Put e k xs out next → after ≡ placed out next ys
    → further ≡ next + length ys → next + length ys ≤ length e → Put e k (xs ++ ys) after further
put_next {e} {xs} {out} {k} {next} ys p h hn room =
    record {
      list = h ∙ ap₂ (λ (o : List ℕ) (n : ℕ). placed o n ys) p.list p.ends ∙ placed-placed e k xs ys p.room;
      ends = rw length-append (omega (arith, p.ends));
      room = rw length-append (omega (arith, p.ends));
    }

pub put_as : {e xs ys out : List ℕ} {k next : ℕ} → xs ≡ ys → Put e k xs out next → Put e k ys out next
put_as {e} {xs} {ys} {out} {k} {next} h p = subst (λ (zs : List ℕ). Put e k zs out next) h p

pub put_byte : {e xs out : List ℕ} {k next : ℕ} (v : ℕ) → Put e k xs out next → next < length e → Put e k (xs ++ (v ∷ [])) (set out next v) (next + 1)
put_byte {e} {xs} {out} {k} {next} v p h =
    put_next (v ∷ []) p (placed-set out next v (rw (put-length p) h)) refl (omega arith)

-- the same with room for some bytes more
pub record Left (room : ℕ) (e : List ℕ) (k : ℕ) (xs out : List ℕ) (next : ℕ) : Type 0 where
  pub put : Put e k xs out next
  pub left : next + room ≤ length out

pub left-none : (room : ℕ) (e : List ℕ) (k : ℕ) → k + room ≤ length e → Left room e k [] e k
left-none room e k h =
    record { put = record { list = sym (placed-nothing e k); ends = omega arith; room = omega arith }; left = h }

pub left-next : {room : ℕ} {e xs out : List ℕ} {k next : ℕ} (most rest : ℕ) (ys : List ℕ) {after : List ℕ} {further : ℕ} → Left room e k xs out next
    → length ys ≤ most → most + rest ≤ room
    → after ≡ placed out next ys → further ≡ next + length ys → Left rest e k (xs ++ ys) after further
left-next {room} {e} {xs} {out} {k} {next} most rest ys {after} {further} l short fits h hn =
    let same : length out ≡ length e = put-length l.put in
    let within : next + length ys ≤ length e = omega (arith, l.left) in
    let p : Put e k (xs ++ ys) after further = put_next ys l.put h hn within in
    record { put = p; left = omega (arith, put-length p, l.left) }
