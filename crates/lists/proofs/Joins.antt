-- The laws of `joined`, lists one after the other.
--     joined-next, joined-front     one list more at the end; the first list and those behind it
--     joined-mono                   fewer lists are no longer than more
--     joined-ext                    equal lists, joined, are equal
--     joined_at                     what stands in the joined lists
--     joined-tab                    rows of l places each, one after the other
-- Assumes nothing.
use mathlib.Core.Path.{◌≡◌, refl, sym, ap, ap₂, subst, ◌∙◌}
use mathlib.Core.List.{List, ◌++◌, append_assoc, append-nil}
use Prim.Native.Nat.{ℕ, zero, suc, ◌+◌, ◌-◌, ◌*◌, ◌≤◌, ◌<◌}
use native.Mathlib.Nat.{add-zero, add-suc, suc-mul, zero-mul, le_step, lt-suc_self, not-suc-le-zero}
use native.Mathlib.Decide.{ℕ_discrete}
use native.Mathlib.Numerals.{add-one}
use native.Mathlib.Omega.{arith}
use lib.ListN.{length, length-append, get_or-append}
use lib.Seq.{get_or-append-add}
use Rattle.lists.specs.Places.{tab, joined, at}
use Rattle.lists.proofs.Tabs.{tab-append}

module _ {ℓ} {A : Type ℓ} where
  pub joined-next : (F : ℕ → List A) (j : ℕ) → joined F (j + 1) ≡ joined F j ++ F j
  unfolding joined
  joined-next F j = rw add-one refl

  pub joined-front : (F : ℕ → List A) (n : ℕ) → joined F (suc n) ≡ F zero ++ joined (λ i. F (suc i)) n
  unfolding joined
  joined-front F zero = sym (append-nil (F zero))
  joined-front F (suc n) =
      ap (λ (xs : List A). xs ++ F (suc n)) (joined-front F n) ∙ append_assoc (F zero) (joined (λ i. F (suc i)) n) (F (suc n))

  pub joined-ext : (F G : ℕ → List A) (n : ℕ) → ((j : ℕ) → j < n → F j ≡ G j) → joined F n ≡ joined G n
  unfolding joined
  joined-ext F G zero h = refl
  joined-ext F G (suc n) h = ap₂ ◌++◌ (joined-ext F G n (λ j l. h j (le_step l))) (h n (lt-suc_self n))

  pub joined-mono : (F : ℕ → List A) (j n : ℕ) → j ≤ n → length (joined F j) ≤ length (joined F n)
  joined-mono F j n h = subst (λ (k : ℕ). length (joined F j) ≤ length (joined F k)) e (more (n - j))
    where
      e : j + (n - j) ≡ n
      e = omega arith

      more : (k : ℕ) → length (joined F j) ≤ length (joined F (j + k))
      more zero = rw add-zero (omega arith)
      more (suc k) = rw (add-suc, sym (add-one (j + k)), joined-next F (j + k), length-append) (omega (arith, more k))

  pub joined-tab : (f : ℕ → A) (d : A) (n l : ℕ) → joined (λ b. tab l (λ j. f (b * l + j))) n ≡ tab (n * l) f
  unfolding joined tab
  joined-tab f d zero l = ap (λ (k : ℕ). tab k f) (sym (zero-mul l))
  joined-tab f d (suc n) l =
      ap (λ (xs : List A). xs ++ tab l (λ j. f (n * l + j))) (joined-tab f d n l)
      ∙ sym (tab-append (n * l) l f d)
      ∙ ap (λ (k : ℕ). tab k f) (sym (suc-mul n l))

-- what stands at place i of list q, where the lists before it end at place k
pub joined_at : (F : ℕ → List ℕ) (n q i k : ℕ) → q < n → i < length (F q) → length (joined F q) ≡ k → at (joined F n) (k + i) ≡ at (F q) i
unfolding joined
joined_at F zero q i k l h e = absurd (not-suc-le-zero l)
joined_at F (suc n) q i k l h e = elim (ℕ_discrete q n) [
  | yes last ↦ rw (last, sym e) (ap (λ (m : ℕ). at (joined F n ++ F n) (length (joined F m) + i)) last ∙ get_or-append-add (joined F n) (F n) i 0)
  | no other ↦
      let before : q < n = omega arith in
      let room : k + i < length (joined F n) = omega (arith, e, joined-mono F (q + 1) n (omega arith), ap length (joined-next F q), length-append (joined F q) (F q)) in
      get_or-append (joined F n) (F n) 0 (k + i) room ∙ joined_at F n q i k before h e
]
