-- What the answer of `settle` says: forced v exactly when all coefficients that reproduce the store give v, free exactly when there is no such
-- v. Filing v is implied exactly if all of them give v (`Implications`), and what filing comes to is told by how the entry stands (`Standings`).
--     settled-call              what is answered where no cause is met
--     forced-told, free-told, implied-told, new_told       an answer tells its case
--     by-standing               what filing an entry comes to, by how it stands
--     forced-exactly, free-exactly, stops-exactly          what each standing says of the coefficients, and of the column
--     settled-exactly           the theorem, for every call that is not refused
-- Assumes nothing.
use mathlib.Core.Path.{◌≡◌, refl, sym, ap, ap₂, ◌∙◌}
use mathlib.Core.Bool.{cond}
use mathlib.Core.Logic.Iff
use mathlib.Core.Logic.{◌↔◌}
use mathlib.Core.List.{List}
use Prim.Native.Nat.{ℕ, ◌<◌}
use native.Mathlib.Nat.{le_of_lt, mod-lt, mod-eq_of_lt}
use native.Mathlib.Omega.{arith}
use lib.Dec.{ltb}
use lib.ListN.{length}
use borrow.Author.Tests.{lt-ltb, ne_eqb, eqb-true, not-false}
use Rattle.plan.specs.declared.admission.Own.TheVariants.{Store}
use Rattle.plan.specs.Causes.{first, gives, answer}
use Rattle.plan.specs.Numbers.{columns, product, Within}
use Rattle.plan.specs.Parts.{Given, store_size, Lent}
use Rattle.plan.specs.Equation.{reproduced}
use Rattle.plan.proofs.Bounds.{prime-low}
use Rattle.plan.proofs.Refusals.{none-met}
use Rattle.plan.proofs.Admitting.{unrefused, other-causes}
use Rattle.store.specs.Elimination.{Outcome, new, implied, contradiction, is_reduced, cells}
use Rattle.store.specs.Filings.{is_contradiction}
use Rattle.store.specs.Stages.{Ready}
use Rattle.store.specs.Calls as filing
use Rattle.store.specs.Calls.{equation, outcome_of, file_own, file_answer, answered}
use Rattle.store.specs.Settled.{Standing, forced, free, standing_of, Gives, settle_own, settle_causes, answer_of, values_of, settle_answer, Settles, FirstOpen}
use Rattle.store.specs.declared.elimination.Filed.TheVariants as filed
use Rattle.std.specs.Prelude.{Ok}
use Rattle.store.specs.declared.settling.Settled.TheVariants.{Forced, Free}
use Rattle.store.proofs.Answers.{new≢implied, new≢contradiction, implied≢contradiction}
use Rattle.store.proofs.ReadingOff.{solution, solution-length, solution-residues, solution-solves}
use Rattle.store.proofs.Implications.{implied-exactly}
use Rattle.store.proofs.Freeing.{lead-open, open-lead}
use Rattle.store.proofs.Standings.{resolution, resolved-by, forced≢free, forced-small, free-lead, resolves-implied, resolves-new}
use Rattle.store.proofs.EntryEquations.{coefficient, right-hand, equation-residues, satisfies-exactly}
use Rattle.store.proofs.StoreCalls.{ready_of}

-- what the last return answers, where no cause is met; H is the plan as it was admitted
pub settled-call : (G H : Given) (store : List ℕ) (i F : ℕ) (vs : List ℕ) → H ≡ G → F ≡ 0
    → vs ≡ values_of (standing_of H store i) → gives vs ≡ answer F (values_of (standing_of G store i))
settled-call G H store i F vs same f h = ap gives h ∙ ap₂ (λ (k : ℕ) (K : Given). answer k (values_of (standing_of K store i))) (sym f) same

-- an answer tells the case
forced-told : (o : Standing) (v : ℕ) → (gives (values_of o) ≡ answer_of (Ok (Forced v))) ↔ (o ≡ forced v)
forced-told (forced u) v = ((λ h. let e : u ≡ v = cc in ap forced e), (λ h. let e : u ≡ v = cc in rw e))
forced-told (free c) v = ((λ h. let z : ◌≡◌ {A = ℕ} 1 0 = cc in absurd (omega arith)), (λ h. absurd (forced≢free v c (sym h))))

free-told : (o : Standing) (c : ℕ) → (gives (values_of o) ≡ answer_of (Ok (Free c))) ↔ (o ≡ free c)
free-told (forced u) c = ((λ h. let z : ◌≡◌ {A = ℕ} 0 1 = cc in absurd (omega arith)), (λ h. absurd (forced≢free u c h)))
free-told (free k) c = ((λ h. let e : k ≡ c = cc in ap free e), (λ h. let e : k ≡ c = cc in rw e))

implied-told : (o : Outcome) → (answered o ≡ filing.answer_of (Ok filed.Implied)) ↔ (o ≡ implied)
implied-told (new c) = ((λ h. let z : ◌≡◌ {A = ℕ} 0 1 = cc in absurd (omega arith)), (λ h. absurd (new≢implied c h)))
implied-told implied = ((λ h. refl), (λ h. refl))
implied-told contradiction = ((λ h. let z : ◌≡◌ {A = ℕ} 0 1 = cc in absurd (omega arith)), (λ h. absurd (implied≢contradiction (sym h))))

new_told : (o : Outcome) (c : ℕ) → (answered o ≡ filing.answer_of (Ok (filed.New c))) ↔ (o ≡ new c)
new_told (new k) c = ((λ h. let e : k ≡ c = cc in ap new e), (λ h. let e : k ≡ c = cc in rw e))
new_told implied c = ((λ h. let z : ◌≡◌ {A = ℕ} 0 1 = cc in absurd (omega arith)), (λ h. absurd (new≢implied c (sym h))))
new_told contradiction c = ((λ h. let z : ◌≡◌ {A = ℕ} 0 1 = cc in absurd (omega arith)), (λ h. absurd (new≢contradiction c (sym h))))

module _ (G : Given) (S : List ℕ) (i : ℕ) (within : Within G.numbers) (lent : Lent G) (ready : Ready G.numbers.p (columns G.numbers) S) where
  pos : 0 < G.numbers.p
  pos = omega (arith, prime-low within)

  by-standing : (v : ℕ) → v < G.numbers.p → outcome_of G S i v ≡ resolution (standing_of G S i) v
  by-standing v =
      resolved-by G.numbers.p (columns G.numbers) (cells (columns G.numbers) S) (equation G i)
      (λ v j l. coefficient G i v j l ∙ sym (coefficient G i 0 j l)) (right-hand G i) v pos

  -- all coefficients give v exactly when filing v is implied
  implied-gives : (v : ℕ) → v < G.numbers.p → (outcome_of G S i v ≡ implied) ↔ Gives G S i v
  implied-gives v l =
      let all = implied-exactly G.numbers.p (columns G.numbers) within.prime (cells (columns G.numbers) S) (equation G i v) ready.reduced
      (equation-residues G i v within lent l) in (
        (λ h β n r s. (satisfies-exactly G i v β).0 (all.0 h β n r s) ∙ mod-eq_of_lt l),
        (λ g. all.1 (λ β n r s. (satisfies-exactly G i v β).1 (g β n r s ∙ sym (mod-eq_of_lt l)))),
      )

  -- what is given is a residue: the coefficients read off give it
  given-small : (v : ℕ) → Gives G S i v → v < G.numbers.p
  given-small v g =
      let C = columns G.numbers in
      let β = solution C (cells C S) in
      rw (g β (solution-length C (cells C S)) (solution-residues G.numbers.p C (cells C S) ready.reduced pos) (solution-solves G.numbers.p C (cells C S) ready.reduced)) at
      (mod-lt (reproduced G i β) pos)

  forced-exactly : (v : ℕ) → (standing_of G S i ≡ forced v) ↔ Gives G S i v
  forced-exactly v = (
    (λ h.
        let l = forced-small G.numbers.p (columns G.numbers) (cells (columns G.numbers) S) (equation G i 0) v pos h in
        (implied-gives v l).0 (by-standing v l ∙ (resolves-implied (standing_of G S i) v).1 h)),
    (λ g.
        let l = given-small v g in
        (resolves-implied (standing_of G S i) v).0 (sym (by-standing v l) ∙ (implied-gives v l).1 g)),
  )

  free-exactly : ((c : ℕ) × (standing_of G S i ≡ free c)) ↔ ((v : ℕ) → Gives G S i v → ⊥)
  free-exactly = by (standing_of G S i) forced-exactly
    where
      by : (o : Standing) → ((v : ℕ) → (o ≡ forced v) ↔ Gives G S i v) → ((c : ℕ) × (o ≡ free c)) ↔ ((v : ℕ) → Gives G S i v → ⊥)
      by (forced u) h = ((λ e. absurd (forced≢free u e.0 e.1)), (λ none. absurd (none u ((h u).0 refl))))
      by (free c) h = ((λ e v g. forced≢free v c (sym ((h v).1 g))), (λ none. (c, refl)))

  stops-exactly : (c : ℕ) → (standing_of G S i ≡ free c) ↔ FirstOpen G.numbers.p (columns G.numbers) (cells (columns G.numbers) S) (equation G i 0) c
  stops-exactly c =
      let C = columns G.numbers in
      let f = free-lead G.numbers.p C (cells C S) (equation G i 0) c in
      let small : (j : ℕ) → j < C → equation G i 0 j < G.numbers.p = λ j l. equation-residues G i 0 within lent pos j (le_of_lt l) in (
        (λ h. let k = f.0 h in lead-open G.numbers.p C (cells C S) (equation G i 0) ready.reduced small c k.0 k.1),
        (λ o. f.1 (o.column, open-lead G.numbers.p C (cells C S) (equation G i 0) ready.reduced small c o)),
      )

  module _ (given : settle_answer G S i ≡ gives (values_of (standing_of G S i)))
      (files : (v : ℕ) → v < G.numbers.s → file_answer G S i v ≡ answered (outcome_of G S i v)) where
    -- what filing answers, by the standing
    filed-by : (v : ℕ) → v < G.numbers.s → file_answer G S i v ≡ answered (resolution (standing_of G S i) v)
    filed-by v l = files v l ∙ ap answered (by-standing v (omega (arith, within.value-high)))

    forced-reply : (v : ℕ) → (settle_answer G S i ≡ answer_of (Ok (Forced v))) ↔ (standing_of G S i ≡ forced v)
    forced-reply v = let t = forced-told (standing_of G S i) v in ((λ h. t.0 (sym given ∙ h)), (λ h. given ∙ t.1 h))

    free-reply : (c : ℕ) → (settle_answer G S i ≡ answer_of (Ok (Free c))) ↔ (standing_of G S i ≡ free c)
    free-reply c = let t = free-told (standing_of G S i) c in ((λ h. t.0 (sym given ∙ h)), (λ h. given ∙ t.1 h))

    settles : Settles G S i
    settles =
        record {
          when-forced = λ v. Iff.trans (forced-reply v) (forced-exactly v);
          when-free = (
            (λ h. free-exactly.0 (h.0, (free-reply h.0).0 h.1)),
            (λ none. let f = free-exactly.1 none in (f.0, (free-reply f.0).1 f.1)),
          );
          stops = λ c. Iff.trans (free-reply c) (stops-exactly c);
          implied = λ v l.
              let o = resolution (standing_of G S i) v in
              let r = resolves-implied (standing_of G S i) v in (
                (λ h. filed-by v l ∙ (implied-told o).1 (r.1 ((forced-reply v).0 h))),
                (λ h. (forced-reply v).1 (r.0 ((implied-told o).0 (sym (filed-by v l) ∙ h)))),
              );
          contradicted = λ u v l h d.
              filed-by v l ∙ ap (λ (o : Standing). answered (resolution o v)) ((forced-reply u).0 h) ∙ rw (ne_eqb u v (λ e. d (sym e)));
          new = λ c v l.
              let o = resolution (standing_of G S i) v in
              let r = resolves-new (standing_of G S i) c v in (
                (λ h. filed-by v l ∙ (new_told o c).1 (r.1 ((free-reply c).0 h))),
                (λ h. (free-reply c).1 (r.0 ((new_told o c).0 (sym (filed-by v l) ∙ h)))),
              );
        }

pub settled-exactly : (G : Given) (S : List ℕ) (i : ℕ) → first (settle_causes G S i) ≡ 0 → Settles G S i
settled-exactly G S i e =
    let P = G.numbers in
    let u = unrefused G (Store (length S)) (settle_own S i) e in
    let none = none-met (settle_own S i G) (omega arith) u.rest-none in
    let reduced = not-false (is_reduced P.p (columns P) (cells (columns P) S)) none.0 in
    let near = not-false (ltb i (product G.radices)) none.1.0 in
    settles G S i u.within u.lent (ready_of P S u.within (eqb-true (length S) (store_size (columns P)) u.own-fits) reduced)
    (ap (λ (k : ℕ). answer k (values_of (standing_of G S i))) e)
    (λ v l.
    ap (λ (k : ℕ). answer k (filing.values_of (outcome_of G S i v))) {y = cond (is_contradiction (outcome_of G S i v)) 9 0}
    (other-causes G (Store (length S)) (settle_own S i) (file_own S i v) e ∙ rw (reduced, near, lt-ltb v P.s l)))
