-- 02, C-17: `general` says yes exactly when every table with values below s has coefficients, and else no.
--     general-says       on an accepted plan, and a work store of its length, the answer is yes or no by `is_general`
--     suits-all          if each entry is New with the value 0, every table has coefficients (`Tables`): those of the table modulo p
--     all_new            if every table has coefficients, each entry is New with the value 0: take the table that is 1 there and else 0
--     general            the theorem
-- Assumes nothing.
use mathlib.Core.Path.{◌≡◌, refl, sym, ap, ◌∙◌}
use mathlib.Core.Bool.{Bool, true, false, cond, true≢false, not-eq-not}
use mathlib.Core.List.{List, [], ◌∷◌}
use Prim.Native.Nat.{ℕ, zero, suc, ◌%◌, ◌<◌}
use native.Mathlib.Nat.{mod-lt, mod-mod}
use native.Mathlib.Decide.{ℕ_discrete}
use native.Mathlib.Omega.{arith}
use lib.Dec.{eqb}
use lib.ListN.{length}
use borrow.Author.Tests.{eq-eqb, ne_eqb}
use Rattle.lists.proofs.Tests.{every-at, every_of}
use Rattle.field.proofs.Modular.{cong-residue}
use Rattle.plan.specs.declared.admission.Own.TheVariants.{Store}
use Rattle.plan.specs.Causes.{Answer, gives, answer}
use Rattle.plan.specs.Numbers.{columns, product}
use Rattle.plan.specs.Parts.{Given, store_size}
use Rattle.plan.proofs.Admitting.{accepted-call}
use Rattle.store.specs.Elimination.{cells}
use Rattle.store.specs.Filings.{is_new}
use Rattle.store.specs.Calls.{outcome_of, filed}
use Rattle.store.proofs.Filing.{above-one, positive}
use Rattle.store.proofs.ReadingOff.{solution, solution-length, solution-residues}
use Rattle.general.specs.Suits.{work_after, is_general, general_answer}
use Rattle.general.proofs.Working.{was_new}
use Rattle.demands.specs.Demand3.{Accepted}
use Rattle.demands.specs.General.{SuitsAll, General}
use Rattle.demands.proofs.Turns.{within, lent}
use Rattle.demands.proofs.Tables.{table_after, outcome_at, zeros, ready, table-solved, new-reached}

-- the test's work store is that of the table of value 0
work-is : (G : Given) (i : ℕ) → work_after G i ≡ table_after G zeros i
unfolding work_after table_after
work-is G zero = refl
work-is G (suc i) = ap (λ (S : List ℕ). filed G S i 0) (work-is G i)

was-new : (G : Given) (i : ℕ) → was_new G i ≡ is_new (outcome_at G zeros i)
was-new G i = ap (λ (S : List ℕ). is_new (outcome_of G S i 0)) (work-is G i)

-- yes and no, as they are answered
abbrev said : Bool → Answer
said b = gives (cond b 1 0 ∷ [])

says-yes : (b : Bool) → said b ≡ said true → b ≡ true
says-yes true e = refl
says-yes false e = let z : ◌≡◌ {A = ℕ} 0 1 = cc in absurd (omega arith)

says-no : (b : Bool) → said b ≡ said false → b ≡ false
says-no true e = let z : ◌≡◌ {A = ℕ} 1 0 = cc in absurd (omega arith)
says-no false e = refl

-- the table that is 1 at entry i alone
unit : ℕ → ℕ → ℕ
unit i k = cond (eqb k i) 1 0

module _ (G : Given) (accepted : Accepted G) where
  pos : 0 < G.numbers.p
  pos = positive G.numbers.p (within G accepted).prime

  suits-all : is_general G ≡ true → SuitsAll G
  unfolding is_general
  suits-all h f table =
      record {
        list = β;
        places = solution-length C S;
        residues = solution-residues G.numbers.p C S (ready G (within G accepted) (lent G accepted) f' small (product G.radices)).reduced pos;
        each = λ i l.
            table-solved G (within G accepted) (lent G accepted) f' small (product G.radices)
            (λ k b. sym (was-new G k) ∙ every-at (was_new G) (product G.radices) h k b) i l
            ∙ mod-mod (f i) G.numbers.p;
      }
    where
      C : ℕ
      C = columns G.numbers

      f' : ℕ → ℕ
      f' i = f i % G.numbers.p

      small : (i : ℕ) → f' i < G.numbers.p
      small i = mod-lt (f i) pos

      S : ℕ → ℕ → ℕ
      S = cells C (table_after G f' (product G.radices))

      β : List ℕ
      β = solution C S

  pub all_new : SuitsAll G → is_general G ≡ true
  unfolding is_general unit
  all_new h = every_of (was_new G) (product G.radices) (λ i l.
      let c = h (unit i) (λ k b. table i k) in
      was-new G i
      ∙ new-reached G (within G accepted) (lent G accepted) i c.list
      (λ k b. c.each k (omega arith) ∙ rw (ne_eqb k i (λ e. omega arith)))
      (λ z. absurd (omega (arith, cong-residue G.numbers.p pos (above-one G.numbers.p (within G accepted).prime) (sym z ∙ c.each i l ∙ rw (eq-eqb i i refl))))))
    where
      table : (i k : ℕ) → unit i k < G.numbers.s
      table i k = elim (ℕ_discrete k i) [
        | yes e ↦ rw (eq-eqb k i e) (omega (arith, (within G accepted).value_low))
        | no d ↦ rw (ne_eqb k i d) (omega (arith, (within G accepted).value_low))
      ]

  module _ (work : List ℕ) (fits : length work ≡ store_size (columns G.numbers)) where
    general-says : general_answer G work ≡ said (is_general G)
    general-says =
        ap (λ (k : ℕ). answer k (cond (is_general G) 1 0 ∷ []))
        (accepted-call G accepted (Store (length work)) (λ _. []) (eq-eqb _ _ fits))

    pub general : General G work
    general =
        record {
          yes = ((λ e. suits-all (says-yes (is_general G) (sym general-says ∙ e))), (λ h. general-says ∙ ap said (all_new h)));
          no = (
            (λ e h. true≢false (sym (all_new h) ∙ says-no (is_general G) (sym general-says ∙ e))),
            (λ none. general-says ∙ ap said ((not-eq-not {a = is_general G} {b = false}).0 (λ h. none (suits-all h)))),
          );
        }
