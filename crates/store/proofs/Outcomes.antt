-- What filing answers and leaves, from the residual that stands at the front of a longer list and the place of its first coefficient.
--     Left, is-left          the list is the residual of e
--     left-length, left_at, left-line, last-at    its length, a place of it at the longer list's front, that it is a line, its right-hand side
--     LeadAt                 k is the residual's lead
--     lead-found, lead-missing     the place found among the first C is it; where none is found, it is C
--     lead-left              left of it the residual is zero
--     new-answer, new-store             a new equation
--     conflict-answer, implied-answer, same_store       a contradiction and an implied equation, which leave the store
-- Assumes nothing.
use mathlib.Core.Path.{◌≡◌, refl, sym, ap, subst⁻¹, ◌∙◌}
use mathlib.Core.Bool.{not}
use mathlib.Core.List.{List, ◌++◌}
use Prim.Native.Nat.{ℕ, ◌+◌, ◌≤◌, ◌<◌}
use native.Mathlib.Nat.{le_of_lt}
use native.Mathlib.Omega.{arith}
use lib.Dec.{eqb}
use lib.ListN.{length, take, get_or-append}
use lib.Seq.{length-take-le, get_or-take}
use borrow.Author.Tests.{eq-eqb, ne_eqb, lt-ltb, le-ltb}
use Rattle.std.proofs.Common.{Some, None}
use Rattle.std.specs.List.{position}
use Rattle.lists.specs.Places.{tab, at}
use Rattle.lists.proofs.Tabs.{tab-length, tab-at}
use Rattle.field.proofs.Ranges.{residues-tab}
use Rattle.plan.specs.Parts.{store_size}
use Rattle.store.specs.Elimination.{residual, lead, normal, inserted, outcome, after, cells, flat}
use Rattle.store.specs.Stages.{Line}
use Rattle.store.specs.Calls.{answer_of, answered}
use Rattle.std.specs.Prelude.{Ok, Err}
use Rattle.plan.specs.declared.refusal.Refusal.TheVariants.{Contradiction}
use Rattle.store.specs.declared.elimination.Filed.TheVariants.{New, Implied}
use Rattle.store.proofs.Leads.{lead-ext, lead-before, position-found, position-below, position-missing}
use Rattle.store.proofs.Bytes.{flat-cells, flat-ext}
use Rattle.store.proofs.Residuals.{residual-small}
use Rattle.store.proofs.SamePlaces.{normal-ext, inserted-ext}
use Rattle.store.proofs.Fronts.{front-list, front_length, front-room}

pub record Left (p C : ℕ) (store : List ℕ) (e : ℕ → ℕ) (res : List ℕ) : Type 0 where
  pub list : res ≡ tab (C + 1) (residual p C (cells C store) e)

pub is-left : (p C : ℕ) (store : List ℕ) (e : ℕ → ℕ) (res : List ℕ) → res ≡ tab (C + 1) (residual p C (cells C store) e) → Left p C store e res
is-left p C store e res h = record { list = h }

pub record LeadAt (p C : ℕ) (store : List ℕ) (e : ℕ → ℕ) (k : ℕ) : Type 0 where
  pub lead_is : k ≡ lead (residual p C (cells C store) e) C

module _ {p C : ℕ} {store : List ℕ} {e : ℕ → ℕ} {res : List ℕ} (h : Left p C store e res) where
  pub left-length : length res ≡ C + 1
  left-length = ap length h.list ∙ tab-length (C + 1) (residual p C (cells C store) e)

  left-place : (j : ℕ) → j ≤ C → at res j ≡ residual p C (cells C store) e j
  left-place j l = ap (λ (xs : List ℕ). at xs j) h.list ∙ tab-at (C + 1) (residual p C (cells C store) e) 0 j (omega arith)

  module _ (rest : List ℕ) where
    pub left_at : (j : ℕ) → j ≤ C → at (take (C + 1) (res ++ rest)) j ≡ residual p C (cells C store) e j
    left_at j l = ap (λ (xs : List ℕ). at xs j) (front-list C res rest left-length) ∙ left-place j l

    pub last-at : at (res ++ rest) C ≡ residual p C (cells C store) e C
    last-at = get_or-append res rest 0 C (omega (arith, left-length)) ∙ left-place C (omega arith)

    pub left-line : 0 < p → Line p C (take (C + 1) (res ++ rest))
    left-line pos =
        record {
          places = front_length C res rest left-length;
          residues = λ i.
              subst⁻¹ (λ (xs : List ℕ). at xs i < p) (front-list C res rest left-length ∙ h.list)
              (residues-tab p (C + 1) (residual p C (cells C store) e) pos (λ j l. residual-small p C (cells C store) e j pos) i);
        }

    -- the coefficients alone
    pub lead-room : C ≤ length (res ++ rest)
    lead-room = omega (arith, front-room C res rest left-length)

    pub lead-length : length (take C (res ++ rest)) ≡ C
    lead-length = length-take-le C (res ++ rest) lead-room

    same-lead : lead (at (take C (res ++ rest))) (length (take C (res ++ rest))) ≡ lead (residual p C (cells C store) e) C
    same-lead =
        ap (lead (at (take C (res ++ rest)))) lead-length
        ∙ lead-ext (at (take C (res ++ rest))) (residual p C (cells C store) e) C
        (λ j l.
        get_or-take C (res ++ rest) j 0 l ∙ sym (get_or-take (C + 1) (res ++ rest) j 0 (omega arith)) ∙ left_at j (le_of_lt l))

    pub lead-found : (k : ℕ) → Some k ≡ position (λ x. not (eqb x 0)) (take C (res ++ rest)) → (k < C) × LeadAt p C store e k
    lead-found k h =
        let found = position-found (take C (res ++ rest)) k h in
        (position-below C (res ++ rest) k h, record { lead_is = found.1 ∙ same-lead })

    pub lead-missing : None ≡ position (λ x. not (eqb x 0)) (take C (res ++ rest)) → LeadAt p C store e C
    lead-missing h = record { lead_is = sym lead-length ∙ sym (position-missing (take C (res ++ rest)) h) ∙ same-lead }

module _ {p C : ℕ} {store : List ℕ} {e : ℕ → ℕ} {k : ℕ} (found : LeadAt p C store e k) where
  g : k ≡ lead (residual p C (cells C store) e) C
  g = found.lead_is

  pub lead-left : (j : ℕ) → j < k → residual p C (cells C store) e j ≡ 0
  lead-left j l = lead-before (residual p C (cells C store) e) C j (omega (arith, g))

  module _ (l : k < C) where
    pub new-answer : answer_of (Ok (New k)) ≡ answered (outcome p C (cells C store) e)
    unfolding outcome
    new-answer = rw (sym g, lt-ltb k C l)

    pub new-store : (res : ℕ → ℕ) → ((j : ℕ) → j ≤ C → res j ≡ residual p C (cells C store) e j)
        → flat C (inserted p (cells C store) (normal p res k) k) ≡ flat C (after p C (cells C store) e)
    unfolding after
    new-store res same =
        rw (sym g, lt-ltb k C l)
        (flat-ext C (inserted p (cells C store) (normal p res k) k) (inserted p (cells C store) (normal p (residual p C (cells C store) e) k) k)
        (λ q j a low b.
        inserted-ext p (cells C store) (cells C store) (normal p res k) (normal p (residual p C (cells C store) e) k) k q j refl refl
        (normal-ext p res (residual p C (cells C store) e) k j (same k (le_of_lt l)) (same j b))))

  module _ (l : C ≤ k) where
    pub conflict-answer : (residual p C (cells C store) e C ≡ 0 → ⊥) → answer_of (Err Contradiction) ≡ answered (outcome p C (cells C store) e)
    unfolding outcome
    conflict-answer d = rw (sym g, le-ltb k C l, ne_eqb (residual p C (cells C store) e C) 0 d)

    pub implied-answer : residual p C (cells C store) e C ≡ 0 → answer_of (Ok Implied) ≡ answered (outcome p C (cells C store) e)
    unfolding outcome
    implied-answer z = rw (sym g, le-ltb k C l, eq-eqb (residual p C (cells C store) e C) 0 z)

    pub same_store : length store ≡ store_size C → store ≡ flat C (after p C (cells C store) e)
    unfolding after
    same_store places = rw (sym g, le-ltb k C l) (sym (flat-cells C store places))
