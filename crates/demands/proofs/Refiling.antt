-- Entries that a store holds, filed again on an empty one. The coefficients read off the store reproduce them all, so none is a contradiction
-- to others; and a store is told by what it holds.
--     Among k K, Alike K l      each pair of k is one of K; two lists have the same pairs
--     held_same       only which entries are kept matters, not their order
--     one_store       two stores that hold the same entries are the same
--     filed-kept      a filing that is kept: none of causes 7, 8 and 9 refuses its pair, and the filed store holds it too
--     one_value       an entry is held with one value
--     refiled         entries of the store, filed in order on an empty one: none is refused, and the outcome holds them
--     held-sound      a list of the store's entries that names none twice does not meet cause 16
-- Assumes nothing.
use mathlib.Core.Path.{◌≡◌, refl, sym, ap, subst, ◌∙◌}
use mathlib.Core.Bool.{true, ◌&&◌}
use mathlib.Core.List.Memᴰ
use mathlib.Core.List.{List, [], ◌∷◌, ◌++◌, append-nil, append_assoc, Memᴰ}
use mathlib.Core.Logic.{⊎_elim, ◌↔◌}
use Prim.Native.Nat.{ℕ}
use native.Mathlib.Omega.{arith}
use lib.Dec.{eqb}
use borrow.Author.Tests.{eq-eqb}
use Rattle.lists.specs.Places.{at, same}
use Rattle.lists.proofs.Tests.{both}
use Rattle.lists.proofs.Sameness.{same_refl}
use Rattle.field.proofs.Modular.{cong-residue}
use Rattle.plan.specs.Causes.{first, leaves}
use Rattle.plan.specs.Numbers.{columns}
use Rattle.plan.specs.Parts.{Given}
use Rattle.store.specs.Elimination.{cells}
use Rattle.store.specs.Calls.{outcome_of, values_of, filed}
use Rattle.store.proofs.Filing.{positive}
use Rattle.store.proofs.EntryEquations.{satisfies-exactly}
use Rattle.store.proofs.ReadingOff.{solution, solution-length, solution-residues, solution-solves}
use Rattle.laws.proofs.Uniqueness.{stores-equal}
use Rattle.ledger.specs.Lists.{Pair, distinct, filed_on, pair_causes, accepts, sound}
use Rattle.demands.specs.Demand3.{Accepted, call, refusal, answer, store_after, is_kept, empty_store, Reproduces}
use Rattle.demands.proofs.Turns.{Held, kept-passes, within, held-empty, refusal_is, turn, held_kept}

abbrev Among : List Pair → List Pair → Type 0
Among k K = (i v : ℕ) → Memᴰ (i, v) k → Memᴰ (i, v) K

abbrev pub Alike : List Pair → List Pair → Type 0
Alike K l = (i v : ℕ) → Memᴰ (i, v) K ↔ Memᴰ (i, v) l

pub held_same : (G : Given) (S : List ℕ) (K l : List Pair) → Alike K l → Held G S K → Held G S l
held_same G S K l alike h =
    record {
      size = h.size;
      reduced = h.reduced;
      solves = λ β. ((λ s i v m. (h.solves β).0 s i v ((alike i v).1 m)), (λ e. (h.solves β).1 (λ i v m. e i v ((alike i v).0 m))));
      ranges = λ i v m. h.ranges i v ((alike i v).1 m);
    }

module _ (G : Given) (accepted : Accepted G) where
  one_store : (S T : List ℕ) (K : List Pair) → Held G S K → Held G T K → S ≡ T
  one_store S T K h g =
      stores-equal G.numbers.p (columns G.numbers) (within G accepted).prime S T h.size g.size h.reduced g.reduced
      (λ β l r. ((λ s. (g.solves (at β)).1 ((h.solves (at β)).0 s)), (λ s. (h.solves (at β)).1 ((g.solves (at β)).0 s))))

  pub filed-kept : (S : List ℕ) (K : List Pair) → Held G S K → (i v : ℕ) → is_kept (answer (call G S i v)) ≡ true
      → (first (pair_causes G S (i, v)) ≡ 0) × Held G (filed G S i v) (K ++ ((i, v) ∷ []))
  unfolding answer refusal store_after
  filed-kept S K h i v kept =
      let zero = kept-passes (refusal (call G S i v)) (values_of (outcome_of G S i v)) kept in (
        sym (refusal_is G accepted S K h i v) ∙ zero,
        subst (λ (X : List ℕ). Held G X (K ++ ((i, v) ∷ []))) (ap (λ (k : ℕ). leaves k (filed G S i v) S) zero) (held_kept G accepted S K h i v kept),
      )

  module _ (S : List ℕ) (K : List Pair) (h : Held G S K) where
    -- the coefficients read off
    β : List ℕ
    β = solution (columns G.numbers) (cells (columns G.numbers) S)

    reproduces : (i v : ℕ) → Memᴰ (i, v) K → Reproduces G β i v
    unfolding β
    reproduces i v m =
        (satisfies-exactly G i v β).0
        ((h.solves (at β)).0 (solution-solves G.numbers.p (columns G.numbers) (cells (columns G.numbers) S) h.reduced) i v m)

    pub one_value : (i u v : ℕ) → Memᴰ (i, u) K → Memᴰ (i, v) K → u ≡ v
    one_value i u v m n =
        cong-residue G.numbers.p
        (omega (arith, (h.ranges i u m).1, (within G accepted).value-high)) (omega (arith, (h.ranges i v n).1, (within G accepted).value-high))
        (sym (reproduces i u m) ∙ reproduces i v n)

    -- a pair of K is kept by a store that holds pairs of K
    agrees : (T : List ℕ) (L : List Pair) → Held G T L → Among L K → (i v : ℕ) → Memᴰ (i, v) K → is_kept (answer (call G T i v)) ≡ true
    unfolding β
    agrees T L g inside i v m =
        let r = h.ranges i v m in
        let t = turn G accepted T L g i v in
        t.otherwise r.0 r.1 (λ e.
        (t.exactly r.0 r.1).0 e β (solution-length (columns G.numbers) (cells (columns G.numbers) S))
        (solution-residues G.numbers.p (columns G.numbers) (cells (columns G.numbers) S) h.reduced (positive G.numbers.p (within G accepted).prime))
        (λ j u n. reproduces j u (inside j u n)) (reproduces i v m))

    refiles : (k : List Pair) (T : List ℕ) (L : List Pair) → Held G T L → Among L K → Among k K
        → (accepts G T k ≡ true) × Held G (filed_on G T k) (L ++ k)
    unfolding accepts filed_on
    refiles [] T L g inside more = (refl, rw append-nil g)
    refiles (x ∷ k) T L g inside more =
        let here = more x.0 x.1 (Memᴰ.head refl) in
        let f = filed-kept T L g x.0 x.1 (agrees T L g inside x.0 x.1 here) in
        let rest = refiles k (filed G T x.0 x.1) (L ++ (x ∷ [])) f.1
        (λ i v m. ⊎_elim (inside i v) (λ n. Memᴰ.cast (Memᴰ.eq_of_singleton n) here) (Memᴰ.append_cases L m))
        (λ i v m. more i v (Memᴰ.tail m)) in (
          both (eqb (first (pair_causes G T x)) 0) (accepts G (filed G T x.0 x.1) k) (eq-eqb _ _ f.0) rest.0,
          subst (λ (X : List Pair). Held G (filed_on G (filed G T x.0 x.1) k) X) (append_assoc L (x ∷ []) k) rest.1,
        )

    pub refiled : (k : List Pair) → Among k K → (accepts G (empty_store G) k ≡ true) × Held G (filed_on G (empty_store G) k) k
    refiled k more = refiles k (empty_store G) [] (held-empty G accepted) (λ i v m. absurd (Memᴰ.not-nil m)) more

    pub held-sound : (l : List Pair) → distinct l ≡ true → Alike K l → sound G S l ≡ true
    unfolding sound
    held-sound l one alike =
        let r = refiled l (λ i v. (alike i v).1) in
        let T : List ℕ = filed_on G (empty_store G) l in
        both (distinct l) (accepts G (empty_store G) l && same S T) one
        (both (accepts G (empty_store G) l) (same S T) r.0
        (subst (λ (X : List ℕ). same S X ≡ true) (one_store S T l (held_same G S K l alike h) r.1) (same_refl S)))
