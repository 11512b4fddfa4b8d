-- A loop that writes a list in place, from the front. `Written n f e j xs`: the list e, of n places, has had its first j places
-- overwritten by f 0, .., f (j - 1), which gives xs. Five laws serve every such loop, each a law of `placed`:
--     written_none     before the first turn
--     written_next     a turn that sets place j to f j
--     written-part     a turn that overwrites the l places from j on, as a part that was lent
--     unwritten        what a turn reads at place j, or further on, is as at entry
--     written_all      after the last turn the list is `tab n f`
-- Assumes nothing.
use mathlib.Core.Path.{◌≡◌, sym, ap, ap₂, ◌∙◌}
use mathlib.Core.List.{List, [], ◌∷◌, ◌++◌}
use Prim.Native.Nat.{ℕ, ◌+◌, ◌-◌, ◌≤◌, ◌<◌}
use native.Mathlib.Nat.{add-zero, zero-add, add-sub_cancel_left}
use native.Mathlib.Omega.{arith}
use lib.ListN.{length, set, take, drop}
use Rattle.lists.specs.Places.{tab, placed, at}
use Rattle.lists.proofs.Tabs.{tab-length, tab-append}
use Rattle.lists.proofs.Placing.{placed-length, placed-nothing, placed-placed, placed-set, placed-whole, placed-after, lent_placed}

pub record Written (n : ℕ) (f : ℕ → ℕ) (e : List ℕ) (j : ℕ) (xs : List ℕ) : Type 0 where
  pub within : j ≤ n
  pub entry : length e ≡ n
  pub same : length xs ≡ n
  pub list : xs ≡ placed e 0 (tab j f)

pub written_none : (n : ℕ) (f : ℕ → ℕ) (e : List ℕ) → length e ≡ n → Written n f e 0 e
unfolding tab
written_none n f e h = record { within = omega arith; entry = h; same = h; list = sym (placed-nothing e 0) }

module _ {n : ℕ} {f : ℕ → ℕ} {e xs : List ℕ} {j : ℕ} (w : Written n f e j xs) where
  room : 0 + length (tab j f) ≤ length e
  room = rw tab-length (omega (arith, w.within, w.entry))

  -- l places more, from place j on
  more : (l : ℕ) (ys xs' : List ℕ) → j + l ≤ n → ys ≡ tab l (λ k. f (j + k)) → xs' ≡ placed xs j ys → Written n f e (j + l) xs'
  more l ys xs' h hy hx =
      record {
        within = h;
        entry = w.entry;
        same = ap length list ∙ placed-length e 0 (tab (j + l) f) (rw tab-length (omega (arith, w.entry))) ∙ w.entry;
        list = list;
      }
    where
      list : xs' ≡ placed e 0 (tab (j + l) f)
      list =
          hx ∙ ap₂ (λ (o : List ℕ) (k : ℕ). placed o k ys) w.list (sym (zero-add (length (tab j f)) ∙ tab-length j f)) ∙ placed-placed e 0 (tab j f) ys room
          ∙ ap (placed e 0) (ap (λ (l : List ℕ). tab j f ++ l) hy ∙ sym (tab-append j l f 0))

  pub unwritten : (i : ℕ) → j ≤ i → at xs i ≡ at e i
  unwritten i h = ap (λ (ys : List ℕ). at ys i) w.list ∙ placed-after e 0 (tab j f) room i (rw (tab-length, zero-add) h)

  pub written_all : n ≤ j → xs ≡ tab n f
  written_all h =
      let full : j ≡ n = omega (arith, w.within) in
      w.list ∙ placed-whole e (tab j f) (rw tab-length (omega (arith, w.entry))) ∙ ap (λ (k : ℕ). tab k f) full

pub written_next : {n : ℕ} {f : ℕ → ℕ} {e xs : List ℕ} {j : ℕ} (v : ℕ) → Written n f e j xs → j < n → v ≡ f j → Written n f e (j + 1) (set xs j v)
unfolding tab
written_next {n} {f} {e} {xs} {j} v w h hv =
    more w 1 (v ∷ []) (set xs j v) (omega arith) (ap (λ (u : ℕ). u ∷ []) (hv ∙ ap f (sym (add-zero j)))) (placed-set xs j v (omega (arith, w.same)))

pub written-part : {n : ℕ} {f : ℕ → ℕ} {e xs : List ℕ} {j : ℕ} (l : ℕ) (ys : List ℕ) → Written n f e j xs → j + l ≤ n → ys ≡ tab l (λ k. f (j + k)) → Written n f e (j + l) (take j xs ++ (ys ++ drop (j + l - j) (drop j xs)))
written-part {n} {f} {e} {xs} {j} l ys w h hy =
    rw add-sub_cancel_left (more w l ys (take j xs ++ (ys ++ drop l (drop j xs))) h hy (lent_placed xs j l ys (ap length hy ∙ tab-length l (λ k. f (j + k)))))
