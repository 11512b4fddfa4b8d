-- The laws of `tab`: its length, what stands at a place, that a list is the `tab` of its places, and a `tab` cut in two.
-- Assumes nothing.
use mathlib.Core.Path.{◌≡◌, refl, sym, ap, ◌∙◌}
use mathlib.Core.List.{List, ◌∷◌, ◌++◌}
use Prim.Native.Nat.{ℕ, zero, suc, ◌+◌, ◌<◌}
use native.Mathlib.Nat.{le_of_suc-le-suc, not-suc-le-zero, zero-add, suc-add}
use lib.ListN.{length, get_or}
use lib.Seq.{ext_get_or}
use Rattle.lists.specs.Places.{tab}

module _ {ℓ} {A : Type ℓ} where
  pub tab-length : (n : ℕ) (f : ℕ → A) → length (tab n f) ≡ n
  unfolding tab
  tab-length zero f = refl
  tab-length (suc n) f = ap suc (tab-length n (λ k. f (suc k)))

  pub tab-at : (n : ℕ) (f : ℕ → A) (d : A) (i : ℕ) → i < n → get_or (tab n f) i d ≡ f i
  unfolding tab
  tab-at zero f d i h = absurd (not-suc-le-zero h)
  tab-at (suc n) f d zero h = refl
  tab-at (suc n) f d (suc i) h = tab-at n (λ k. f (suc k)) d i (le_of_suc-le-suc h)

  pub is-tab : (xs : List A) (n : ℕ) (f : ℕ → A) (d : A) → length xs ≡ n → ((i : ℕ) → i < n → get_or xs i d ≡ f i) → xs ≡ tab n f
  is-tab xs n f d e h =
      ext_get_or d xs (tab n f) (e ∙ sym (tab-length n f))
      (λ i l. let l' : i < n = rw e at l in h i l' ∙ sym (tab-at n f d i l'))

  pub tab-ext : (n : ℕ) (f g : ℕ → A) (d : A) → ((i : ℕ) → i < n → f i ≡ g i) → tab n f ≡ tab n g
  tab-ext n f g d h = is-tab (tab n f) n g d (tab-length n f) (λ i l. tab-at n f d i l ∙ h i l)

  pub tab-append : (n m : ℕ) (f : ℕ → A) (d : A) → tab (n + m) f ≡ tab n f ++ tab m (λ k. f (n + k))
  unfolding tab
  tab-append zero m f d = ap (λ (k : ℕ). tab k f) (zero-add m) ∙ tab-ext m f (λ k. f (zero + k)) d (λ i l. ap f (sym (zero-add i)))
  tab-append (suc n) m f d =
      ap (λ (k : ℕ). tab k f) (suc-add n m)
      ∙ ap (λ (l : List A). f zero ∷ l)
      (tab-append n m (λ k. f (suc k)) d
      ∙ ap (λ (l : List A). tab n (λ k. f (suc k)) ++ l) (tab-ext m (λ k. f (suc (n + k))) (λ k. f (suc n + k)) d (λ i l. ap f (sym (suc-add n i)))))
