-- How an equation whose right-hand side is 0 stands on a store (`standing` of specs/Settled), and what filing its row with a value comes to.
--     free-answer, forced-answer     the answer by the first column at which the residual is not 0
--     opposite-exactly          two residues cancel exactly if one is the opposite of the other
--     resolution o v            what filing v comes to by the standing o: new with the free column; implied for the forced residue, else a contradiction
--     resolved-by               the law that says so: the coefficients of the residual are the same for all values, and its right-hand side moves with the value
--     forced≢free, forced-small       the standings differ, and a forced residue is one
--     free-lead                 a free column is the first at which the residual is not 0
--     resolves-implied, resolves-new       which standing makes a filing implied, and new
-- Assumes nothing.
use mathlib.Core.Path.{◌≡◌, refl, sym, ap, ap₂, ◌∙◌}
use mathlib.Core.Bool.{Bool, true, false, cond}
use mathlib.Core.Logic.{◌↔◌, ◌≢◌}
use Prim.Native.Nat.{ℕ, ◌+◌, ◌-◌, ◌*◌, ◌%◌, ◌≤◌, ◌<◌}
use native.Mathlib.Nat.{mod-lt, mod-mod, mod_self, mod-add-mod, mod-eq_of_lt, zero-add}
use native.Mathlib.Decide.{dec_lt, ℕ_discrete}
use native.Mathlib.Omega.{arith}
use lib.Dec.{eqb, ltb}
use borrow.Author.Tests.{lt-ltb, le-ltb, eq-eqb, ne_eqb}
use Rattle.lists.specs.Places.{sum}
use Rattle.lists.proofs.Sums.{sum-ext}
use Rattle.field.proofs.Modular.{cong-of, cong-add}
use Rattle.store.specs.Elimination.{Outcome, new, implied, contradiction, residual, lead, outcome}
use Rattle.store.specs.Settled.{Standing, forced, free, standing, told, values_of}
use Rattle.store.specs.declared.settling.Settled.TheVariants.{Forced, Free}
use Rattle.store.proofs.Leads.{lead-ext}
use Rattle.store.proofs.Residuals.{residual-small, residual-ext}
use Rattle.store.proofs.Answers.{new≢implied, new≢contradiction, implied≢contradiction}

-- the answer, by the first column k at which the residual is not 0
module _ (p C : ℕ) (S : ℕ → ℕ → ℕ) (e : ℕ → ℕ) (k : ℕ) (h : k ≡ lead (residual p C S e) C) where
  pub free-answer : k < C → told (Free k) ≡ values_of (standing p C S e)
  unfolding standing
  free-answer l = rw (sym h, lt-ltb k C l)

  pub forced-answer : C ≤ k → (x v : ℕ) → x ≡ residual p C S e C → v ≡ (p - x) % p → told (Forced v) ≡ values_of (standing p C S e)
  unfolding standing
  forced-answer l x v hx hv = rw (sym h, le-ltb k C l, sym hx, sym hv)

-- two residues cancel exactly if one is the opposite of the other
opposite-exactly : (p r v : ℕ) → r < p → v < p → ((v + r) % p ≡ 0) ↔ ((p - r) % p ≡ v)
opposite-exactly p r v l k = (
  (λ e.
      let whole : p - r + r ≡ p = omega arith in
      let same : (p - r + r) % p ≡ (v + r) % p = ap (λ (x : ℕ). x % p) whole ∙ mod_self p ∙ sym e in
      let more = cong-add p (p - r + r) (v + r) (p - r) (p - r) same refl in
      let left : (p - r) % p ≡ (p - r + r + (p - r)) % p = cong-of p (p - r) (p - r + r + (p - r)) 1 0 (omega arith) in
      let right : (v + r + (p - r)) % p ≡ v % p = cong-of p (v + r + (p - r)) v 0 1 (omega arith) in
      left ∙ more ∙ right ∙ mod-eq_of_lt k),
  (λ e.
      let whole : p - r + r ≡ p = omega arith in
      ap (λ (x : ℕ). (x + r) % p) (sym e) ∙ mod-add-mod (p - r) p r ∙ ap (λ (x : ℕ). x % p) whole ∙ mod_self p),
)

abbrev pub resolution : Standing → ℕ → Outcome
resolution (free c) v = new c
resolution (forced u) v = cond (eqb u v) implied contradiction

-- the equations of one row, with each value on the right
module _ (p C : ℕ) (S : ℕ → ℕ → ℕ) (f : ℕ → ℕ → ℕ) (same : (v j : ℕ) → j < C → f v j ≡ f 0 j) (last : (v : ℕ) → f v C ≡ v) where
  R : ℕ → ℕ
  R = residual p C S (f 0)

  right : (v : ℕ) → residual p C S (f v) C ≡ (v + R C) % p
  unfolding residual R
  right v =
      let X = sum (λ q. (p - f 0 q) * S q C) C in
      ap₂ (λ (a b : ℕ). (a + b) % p) (last v) (sum-ext (λ q. (p - f v q) * S q C) (λ q. (p - f 0 q) * S q C) C (λ q l. ap (λ (a : ℕ). (p - a) * S q C) (same v q l)))
      ∙ cong-add p v v X ((f 0 C + X) % p) refl (ap (λ (a : ℕ). a % p) (sym (zero-add X) ∙ ap (λ (a : ℕ). a + X) (sym (last 0))) ∙ sym (mod-mod (f 0 C + X) p))

  lead-same : (v : ℕ) → lead (residual p C S (f v)) C ≡ lead R C
  unfolding R
  lead-same v = lead-ext (residual p C S (f v)) (residual p C S (f 0)) C (λ j l. residual-ext p C S S (f v) (f 0) j (λ q k. refl) (same v) (same v j l))

  pub resolved-by : (v : ℕ) → 0 < p → v < p → outcome p C S (f v) ≡ resolution (standing p C S (f 0)) v
  unfolding outcome standing R
  resolved-by v pos l = elim (dec_lt (lead R C) C) [
    | yes h ↦ rw (lead-same v, lt-ltb (lead R C) C h)
    | no h ↦
        let out : C ≤ lead R C = omega arith in
        rw (lead-same v, le-ltb (lead R C) C out, right v) (ap (λ (b : Bool). cond b implied contradiction) test)
  ]
    where
      exactly : ((v + R C) % p ≡ 0) ↔ ((p - R C) % p ≡ v)
      exactly = opposite-exactly p (R C) v (residual-small p C S (f 0) C pos) l

      test : eqb ((v + R C) % p) 0 ≡ eqb ((p - R C) % p) v
      test = elim (ℕ_discrete ((p - R C) % p) v) [
        | yes e ↦ eq-eqb ((v + R C) % p) 0 (exactly.1 e) ∙ sym (eq-eqb ((p - R C) % p) v e)
        | no d ↦ ne_eqb ((v + R C) % p) 0 (λ e. d (exactly.0 e)) ∙ sym (ne_eqb ((p - R C) % p) v d)
      ]

pub forced≢free : (v c : ℕ) → forced v ≢ free c
forced≢free v c h = let z : ◌≡◌ {A = ℕ} 0 1 = cc in omega arith

-- a forced residue is one
pub forced-small : (p C : ℕ) (S : ℕ → ℕ → ℕ) (e : ℕ → ℕ) (v : ℕ) → 0 < p → standing p C S e ≡ forced v → v < p
unfolding standing
forced-small p C S e v pos = of (ltb (lead R C) C) (lead R C) ((p - R C) % p) (mod-lt (p - R C) pos)
  where
    R : ℕ → ℕ
    R = residual p C S e

    of : (b : Bool) (k u : ℕ) → u < p → cond b (free k) (forced u) ≡ forced v → v < p
    of true k u l h = absurd (forced≢free v k (sym h))
    of false k u l h = let same : u ≡ v = cc in rw same at l

-- a free column is the first at which the residual is not 0
pub free-lead : (p C : ℕ) (S : ℕ → ℕ → ℕ) (e : ℕ → ℕ) (c : ℕ) → (standing p C S e ≡ free c) ↔ ((c < C) × (lead (residual p C S e) C ≡ c))
unfolding standing
free-lead p C S e c = (
  (λ h. elim (dec_lt (lead R C) C) [
    | yes l ↦
        let same : lead R C ≡ c = told (lead R C) (sym (rw (lt-ltb (lead R C) C l)) ∙ h) in
        (rw same at l, same)
    | no d ↦
        let out : C ≤ lead R C = omega arith in
        absurd (forced≢free ((p - R C) % p) c (sym (rw (le-ltb (lead R C) C out)) ∙ h))
  ]),
  (λ h. rw (h.1, lt-ltb c C h.0)),
)
  where
    R : ℕ → ℕ
    R = residual p C S e

    told : (k : ℕ) → free k ≡ free c → k ≡ c
    told k h = cc

-- each answer of filing, by the standing
pub resolves-implied : (o : Standing) (v : ℕ) → (resolution o v ≡ implied) ↔ (o ≡ forced v)
resolves-implied (free c) v = ((λ h. absurd (new≢implied c h)), (λ h. absurd (forced≢free v c (sym h))))
resolves-implied (forced u) v = elim (ℕ_discrete u v) [
  | yes e ↦ ((λ h. ap forced e), (λ h. rw (eq-eqb u v e)))
  | no d ↦ (
    (λ h. absurd (implied≢contradiction (sym h ∙ rw (ne_eqb u v d)))),
    (λ h. let e : u ≡ v = cc in absurd (d e)),
  )
]

pub resolves-new : (o : Standing) (c v : ℕ) → (resolution o v ≡ new c) ↔ (o ≡ free c)
resolves-new (free k) c v = ((λ h. let e : k ≡ c = cc in ap free e), (λ h. let e : k ≡ c = cc in ap new e))
resolves-new (forced u) c v = ((λ h. absurd (neither (eqb u v) h)), (λ h. absurd (forced≢free u c h)))
  where
    neither : (b : Bool) → cond b implied contradiction ≡ new c → ⊥
    neither true h = new≢implied c (sym h)
    neither false h = new≢contradiction c (sym h)
