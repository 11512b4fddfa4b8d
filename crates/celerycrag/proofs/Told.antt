-- An answer's number and values tell what the code returns: a contract on `answer_of`, or on `refusal_of`, says which result it is.
--     named k, named-told       the refusal with 01's number k: of a refusal's number it is that refusal
--     done_of k, done-told      the result of a call without values, from its number: of `refusal_of` of a result it is that result
--     result_of value a, told   the result with these values, or with this number: of a result's answer it is that result, where its values tell
--                               what it returns
--     filed_of, settled_of, suits_of, ran_of, norm_of, plan_of     what is returned with these values
--     unread_of k lines, reread_of      the same of a listing read back, with the line where there is one
--     checked-told, filed-told, settled-told, suited-told, ran-told, normed-told, reread-told     of an answer's number and values, it is that answer
--     admitted-told             of the answer of `admit` they tell the plan's numbers, or the refusal; `whole` of its other clause tells the parts
-- Assumes nothing.
use mathlib.Core.Path.{◌≡◌, refl, ap, ◌∙◌}
use mathlib.Core.Bool.{Bool, true, false, cond}
use mathlib.Core.List.{List, [], ◌∷◌}
use Prim.Native.Nat.{ℕ, zero, suc, ◌<◌}
use native.Mathlib.Omega.{arith}
use lib.Dec.{eqb}
use Rattle.std.specs.Prelude.{Option, None, Some, Result, Ok, Err, ⊤}
use Rattle.lists.specs.Places.{at}
use Rattle.plan.specs.Causes.{Answer, gives, refuses, answer_with, number, refusal_of}
use Rattle.plan.specs.Numbers as plans
use Rattle.plan.proofs.Refusals.{number-positive}
use Rattle.plan.specs.Lending.{admission_of}
use Rattle.plan.specs.declared.numbers.Plan.{Plan}
use Rattle.plan.specs.declared.lending.CheckedPlan.{CheckedPlan}
use Rattle.plan.specs.declared.refusal.Refusal.{Refusal}
use Rattle.plan.specs.declared.refusal.Refusal.TheVariants.{Prime, Radix, Range, Length, Residue, Unreduced, Entry, Value, Contradiction, Room, Step, Digit, Line, Columns, Foreign, Records, Unlisted}
use Rattle.store.specs.Calls as stores
use Rattle.store.specs.declared.elimination.Filed.{Filed}
use Rattle.store.specs.declared.elimination.Filed.TheVariants.{New, Implied}
use Rattle.store.specs.Settled as settling
use Rattle.store.specs.declared.settling.Settled.{Settled}
use Rattle.store.specs.declared.settling.Settled.TheVariants.{Forced, Free}
use Rattle.general.specs.Suits as suits
use Rattle.program.specs.Calls as programs
use Rattle.program.specs.declared.running.Ran.{Ran}
use Rattle.listing.specs.Norm as norms
use Rattle.readback.specs.Listings as listings
use Rattle.readback.specs.declared.unread.Unread.{Unread}

-- another number than 1 to 16 stands for 17
abbrev pub named : ℕ → Refusal
named k = at_place k (Unlisted ∷ Prime ∷ Radix ∷ Range ∷ Length ∷ Residue ∷ Unreduced ∷ Entry ∷ Value ∷ Contradiction ∷ Room ∷ Step ∷ Digit ∷ Line ∷ Columns ∷ Foreign ∷ Records ∷ [])
  where
    at_place : ℕ → List Refusal → Refusal
    at_place k [] = Unlisted
    at_place zero (r ∷ rs) = r
    at_place (suc k) (r ∷ rs) = at_place k rs

pub named-told : (r : Refusal) → named (number r) ≡ r
named-told Prime = refl
named-told Radix = refl
named-told Range = refl
named-told Length = refl
named-told Residue = refl
named-told Unreduced = refl
named-told Entry = refl
named-told Value = refl
named-told Contradiction = refl
named-told Room = refl
named-told Step = refl
named-told Digit = refl
named-told Line = refl
named-told Columns = refl
named-told Foreign = refl
named-told Records = refl
named-told Unlisted = refl

abbrev pub done_of : ℕ → Result ⊤ Refusal
done_of zero = Ok tt
done_of (suc k) = Err (named (suc k))

pub done-told : (a : Result ⊤ Refusal) → done_of (refusal_of a) ≡ a
done-told (Ok u) = refl
done-told (Err r) = refused (number r) (number-positive r) ∙ ap Err (named-told r)
  where
    refused : (k : ℕ) → 0 < k → done_of k ≡ Err (named k)
    refused zero l = absurd (omega arith)
    refused (suc k) l = refl

abbrev pub result_of : {A : Type 0} → (List ℕ → A) → Answer → Result A Refusal
result_of value (gives vs) = Ok (value vs)
result_of value (refuses k) = Err (named k)

pub told : {A : Type 0} (vs : A → List ℕ) (value : List ℕ → A) → ((x : A) → value (vs x) ≡ x) → (a : Result A Refusal) → result_of value (answer_with vs a) ≡ a
told vs value h (Ok x) = ap Ok (h x)
told vs value h (Err r) = ap Err (named-told r)

abbrev pub plan_of : List ℕ → Plan
plan_of vs = plans.plan (at vs 0) (at vs 1) (at vs 2) (at vs 3) (at vs 4)

pub checked-told : (a : Result Plan Refusal) → result_of plan_of (plans.answer_of a) ≡ a
checked-told a = told plans.numbers_of plan_of (λ P. refl) a

abbrev pub numbered : Result CheckedPlan Refusal → Result Plan Refusal
numbered (Ok Q) = Ok Q.numbers
numbered (Err r) = Err r

pub admitted-told : (a : Result CheckedPlan Refusal) → result_of plan_of (admission_of a) ≡ numbered a
admitted-told (Ok Q) = refl
admitted-told (Err r) = ap Err (named-told r)

abbrev pub filed_of : List ℕ → Filed
filed_of [] = Implied
filed_of (c ∷ vs) = New c

pub filed-told : (a : Result Filed Refusal) → result_of filed_of (stores.answer_of a) ≡ a
filed-told a = told stores.told filed_of by_case a
  where
    by_case : (x : Filed) → filed_of (stores.told x) ≡ x
    by_case (New c) = refl
    by_case Implied = refl

abbrev pub settled_of : List ℕ → Settled
settled_of vs = cond (eqb (at vs 0) 0) (Forced (at vs 1)) (Free (at vs 1))

pub settled-told : (a : Result Settled Refusal) → result_of settled_of (settling.answer_of a) ≡ a
settled-told a = told settling.told settled_of by_case a
  where
    by_case : (x : Settled) → settled_of (settling.told x) ≡ x
    by_case (Forced v) = refl
    by_case (Free c) = refl

abbrev pub suits_of : List ℕ → Bool
suits_of vs = eqb (at vs 0) 1

pub suited-told : (a : Result Bool Refusal) → result_of suits_of (suits.answer_of a) ≡ a
suited-told a = told (λ b. cond b 1 0 ∷ []) suits_of by_case a
  where
    by_case : (b : Bool) → suits_of (cond b 1 0 ∷ []) ≡ b
    by_case true = refl
    by_case false = refl

abbrev pub ran_of : List ℕ → Ran
ran_of vs = record { y = at vs 0; bootstraps = at vs 1 }

pub ran-told : (a : Result Ran Refusal) → result_of ran_of (programs.answer_of a) ≡ a
ran-told a = told programs.told ran_of (λ x. refl) a

abbrev pub norm_of : List ℕ → ℕ
norm_of vs = at vs 0

pub normed-told : (a : Result ℕ Refusal) → result_of norm_of (norms.answer_of a) ≡ a
normed-told a = told (λ x. x ∷ []) norm_of (λ x. refl) a

abbrev pub unread_of : ℕ → List ℕ → Unread
unread_of k [] = record { refusal = named k; line = None }
unread_of k (j ∷ lines) = record { refusal = named k; line = Some j }

abbrev pub reread_of : Answer → List ℕ → Result ⊤ Unread
reread_of (gives vs) lines = Ok tt
reread_of (refuses k) lines = Err (unread_of k lines)

pub reread-told : (a : Result ⊤ Unread) → reread_of (listings.answer_of a).0 (listings.answer_of a).1 ≡ a
reread-told (Ok u) = refl
reread-told (Err u) = ap Err (by_line u.line ∙ ap (λ (r : Refusal). record { refusal = r; line = u.line }) (named-told u.refusal))
  where
    by_line : (line : Option ℕ) → unread_of (number u.refusal) (listings.line_with line) ≡ record { refusal = named (number u.refusal); line = line }
    by_line None = refl
    by_line (Some j) = refl
