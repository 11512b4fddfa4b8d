-- Digits: each is below its radix, and a loop that splits them off an entry, the last one first.
--     digit-below, digit-residue                   a digit is below its radix, and so a residue
--     Split, split-none, split-next, split-all     the digits from digit j on are split off, and what is left of the entry
-- Assumes nothing.
use mathlib.Core.Path.{◌≡◌, sym, ap, ◌∙◌}
use mathlib.Core.List.{List}
use Prim.Native.Nat.{ℕ, suc, ◌/◌, ◌%◌, ◌≤◌, ◌<◌}
use native.Mathlib.Nat.{mod-lt, mul_comm, div-one, div-div-eq-div-mul}
use native.Mathlib.Decide.{ℕ_discrete}
use native.Mathlib.Omega.{arith}
use lib.ListN.{length, set, drop, length-set, drop_of_length-le}
use lib.Seq.{get_or-set_same, get_or-set_other}
use Rattle.lists.specs.Places.{tab, at}
use Rattle.lists.proofs.Tabs.{is-tab}
use Rattle.plan.specs.Numbers.{product, Radices}
use Rattle.plan.specs.Rows.{digit}
use Rattle.plan.specs.declared.numbers.Plan.{Plan}
use Rattle.plan.proofs.Radix.{radices-at, product-drop}

pub digit-below : (R : List ℕ) (i j : ℕ) → 0 < at R j → digit R i j < at R j
unfolding digit
digit-below R i j pos = mod-lt (i / product (drop (suc j) R)) pos

pub digit-residue : (P : Plan) (R : List ℕ) (i j : ℕ) → Radices P R → j < P.n → digit R i j < P.p
digit-residue P R i j lent l =
    let r = radices-at P.p R lent.fit j (omega (arith, lent.count)) in
    omega (arith, digit-below R i j (omega (arith, r.0)), r.1)

-- the state of the loop: x has its digits from place j on, and `rest` is the entry without them
pub record Split (R : List ℕ) (i j rest : ℕ) (x : List ℕ) : Type 0 where
  pub near : j ≤ length R
  pub size : length x ≡ length R
  pub left : rest ≡ i / product (drop j R)
  pub done : (k : ℕ) → j ≤ k → k < length R → at x k ≡ digit R i k

module _ (R : List ℕ) (i : ℕ) where
  pub split-none : (x : List ℕ) → length x ≡ length R → Split R i (length R) i x
  unfolding product
  split-none x size =
      record {
        near = omega arith;
        size = size;
        left = sym (ap (λ (S : List ℕ). i / product S) (drop_of_length-le R {i = length R} (omega arith)) ∙ div-one i);
        done = λ k l h. absurd (omega arith);
      }

  pub split-next : (j rest : ℕ) (x : List ℕ) → Split R i (suc j) rest x → Split R i j (rest / at R j) (set x j (rest % at R j))
  unfolding digit
  split-next j rest x s =
      record {
        near = omega (arith, s.near);
        size = length-set x j (rest % at R j) ∙ s.size;
        left =
            ap (λ (z : ℕ). z / at R j) s.left
            ∙ div-div-eq-div-mul i (product (drop (suc j) R)) (at R j)
            ∙ ap (λ (z : ℕ). i / z) (mul_comm (product (drop (suc j) R)) (at R j) ∙ sym (product-drop R j s.near));
        done = λ k l h. elim (ℕ_discrete k j) [
          | yes e ↦
              ap (at (set x j (rest % at R j))) e
              ∙ get_or-set_same x j (rest % at R j) 0 (omega (arith, s.near, s.size))
              ∙ ap (λ (z : ℕ). z % at R j) s.left
              ∙ ap (digit R i) (sym e)
          | no e ↦ get_or-set_other x j k (rest % at R j) 0 e ∙ s.done k (omega arith) h
        ];
      }

  pub split-all : {rest : ℕ} {x : List ℕ} → Split R i 0 rest x → x ≡ tab (length R) (digit R i)
  split-all {rest} {x} s = is-tab x (length R) (digit R i) 0 s.size (λ k l. s.done k (omega arith) l)
