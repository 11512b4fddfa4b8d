-- The loop of the test: the work store is the one after so many entries, filed with value 0, and each was New.
--     empty-length, filed-length       the length of the work store, empty and after a filing
--     ranked-after             while each was New, the store has as many pivots as entries were filed, and is ready for the next
--     too_many                 with more entries than can be New, not each is
--     Going                    the state of the loop
--     going-none, going_next, going-not, going-all       before the first entry; one that is New; one that is not; after the last
-- Assumes nothing.
use mathlib.Core.Path.{◌≡◌, refl, sym, ap, subst, ◌∙◌}
use mathlib.Core.Bool.{Bool, true, false, true≢false, not-eq-not}
use mathlib.Core.List.{List}
use Prim.Native.Nat.{ℕ, zero, suc, ◌+◌, ◌≤◌, ◌<◌}
use native.Mathlib.Numerals.{add-one}
use native.Mathlib.Omega.{arith}
use lib.ListN.{length, length-replicate}
use Rattle.lists.specs.Places.{every}
use Rattle.lists.proofs.Tests.{both, both_true, every-at, every-next}
use Rattle.plan.specs.declared.numbers.Plan.{Plan}
use Rattle.plan.specs.Causes.{Answer}
use Rattle.plan.specs.Numbers.{columns, product, Within}
use Rattle.plan.specs.Parts.{Given, store_size, Lent}
use Rattle.plan.proofs.Bounds.{prime-low}
use Rattle.store.specs.Elimination.{Outcome, new, implied, contradiction, after, cells}
use Rattle.store.specs.Filings.{is_new}
use Rattle.store.specs.Calls.{equation, empty_store, outcome_of, answered, filed}
use Rattle.store.proofs.Bytes.{flat-length}
use Rattle.laws.specs.Rank.{most_new}
use Rattle.laws.proofs.Ranks.{Ranked, ranked-empty, ranked-filed, ranked-most}
use Rattle.laws.proofs.Pivots.{newly}
use Rattle.general.specs.Suits.{work_after, is_general, says_new}

-- entry k was New
abbrev pub was_new : Given → ℕ → Bool
was_new G k = is_new (outcome_of G (work_after G k) k 0)

new-said : (o : Outcome) → says_new (answered o) ≡ is_new o
new-said (new c) = refl
new-said implied = refl
new-said contradiction = refl

pub record Going (G : Given) (work : List ℕ) (i : ℕ) : Type 0 where
  pub within : i ≤ product G.radices
  pub reached : work ≡ work_after G i
  pub news : every (was_new G) i ≡ true

pub empty-length : (P : Plan) (work : List ℕ) → work ≡ empty_store P → length work ≡ store_size (columns P)
empty-length P work e = ap length e ∙ length-replicate (store_size (columns P)) 0

pub filed-length : (G : Given) (work : List ℕ) (i v : ℕ) → length (filed G work i v) ≡ store_size (columns G.numbers)
unfolding filed
filed-length G work i v =
    flat-length (columns G.numbers) (after G.numbers.p (columns G.numbers) (cells (columns G.numbers) work) (equation G i v))

module _ (G : Given) (fine : Within G.numbers) (lent : Lent G) where
  pub ranked-after : (i : ℕ) → every (was_new G) i ≡ true → Ranked G (work_after G i) i
  unfolding work_after every
  ranked-after zero e = ranked-empty G fine
  ranked-after (suc i) e =
      let b = both_true (every (was_new G) i) (was_new G i) e in
      let one : newly (outcome_of G (work_after G i) i 0) ≡ 1 = rw b.1 in
      let more : i + newly (outcome_of G (work_after G i) i 0) ≡ suc i = omega arith in
      subst (Ranked G (filed G (work_after G i) i 0)) more (ranked-filed G fine lent (work_after G i) i i 0 (omega (arith, prime-low fine)) (ranked-after i b.0))

  pub too_many : most_new G.numbers < product G.radices → false ≡ is_general G
  unfolding is_general
  too_many l =
      sym ((not-eq-not {a = is_general G} {b = false}).0 (λ e.
      absurd (omega (arith, ranked-most G fine lent (work_after G (product G.radices)) (product G.radices) (ranked-after (product G.radices) e)))))

  pub going-none : (work : List ℕ) → work ≡ empty_store G.numbers → Going G work 0
  unfolding work_after every
  going-none work e = record { within = omega arith; reached = e; news = refl }

  module _ (work : List ℕ) (i : ℕ) (g : Going G work i) where
    pub going-ranked : Ranked G work i
    going-ranked = subst (λ (X : List ℕ). Ranked G X i) (sym g.reached) (ranked-after i g.news)

    module _ (near : i < product G.radices) (a : Answer) (said : a ≡ answered (outcome_of G work i 0)) where
      same : says_new a ≡ was_new G i
      same = ap says_new said ∙ new-said (outcome_of G work i 0) ∙ ap (λ (X : List ℕ). is_new (outcome_of G X i 0)) g.reached

      pub going-not : says_new a ≡ false → false ≡ is_general G
      unfolding is_general
      going-not h =
          sym ((not-eq-not {a = is_general G} {b = false}).0 (λ e.
          true≢false (sym (every-at (was_new G) (product G.radices) e i near) ∙ sym same ∙ h)))

      pub going_next : says_new a ≡ true → (work' : List ℕ) → work' ≡ filed G work i 0 → Going G work' (i + 1)
      unfolding work_after
      going_next h work' left =
          record {
            within = omega arith;
            reached = left ∙ ap (λ (X : List ℕ). filed G X i 0) g.reached ∙ ap (work_after G) (sym (add-one i));
            news = every-next (was_new G) i ∙ both _ _ g.news (sym same ∙ h);
          }

    pub going-all : product G.radices ≤ i → true ≡ is_general G
    unfolding is_general
    going-all h =
        let e : i ≡ product G.radices = omega (arith, g.within) in
        sym (subst (λ (n : ℕ). every (was_new G) n ≡ true) e g.news)
