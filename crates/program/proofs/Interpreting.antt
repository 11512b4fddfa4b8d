-- The code's registers, a list of 69 numbers, against the definition's, and the facts about tests and tables that the run uses.
--     well-formed, step-facts, StepAt, step-at       what a well-formed list says of its steps
--     small-inverse            the inverse of 4 from that of its residue
--     square-small, minus-zero, minus-other, table-small       the tables' values
--     Running                  the run's state before step k: the registers, each a residue, and the bootstraps so far
--     running_none, running-clear, running-add, running-boot, running-all       its beginning, one step, its end
-- Assumes nothing.
use mathlib.Core.Path.{◌≡◌, sym, ap, fun_ext, subst, ◌∙◌}
use mathlib.Core.Bool.{Bool, true, false, cond, ◌&&◌}
use mathlib.Core.Logic.{◌≢◌}
use mathlib.Core.List.{List, []}
use Prim.Native.Nat.{ℕ, ◌+◌, ◌-◌, ◌*◌, ◌/◌, ◌%◌, ◌≤◌, ◌<◌}
use native.Mathlib.Decide.{ℕ_discrete}
use native.Mathlib.Nat.{add-zero, mod-lt, mod-mod, mod_self, mod-eq_of_lt}
use native.Mathlib.Numerals.{add-one}
use native.Mathlib.Omega.{arith}
use lib.Dec.{eqb, ltb, leb}
use lib.ListN.{length, get_or, set}
use lib.Seq.{get_or-set_same, get_or-set_other}
use borrow.Author.Tests.{eq-eqb, ne_eqb, eqb-true, leb-true, ltb-true}
use Rattle.lists.specs.Places.{sum, at}
use Rattle.lists.proofs.Sums.{sum-zero, sum-next, sum-le}
use Rattle.lists.proofs.Tests.{both_true, every-at}
use Rattle.field.specs.Residues.{Residues, inverse, square, minus_square}
use Rattle.field.proofs.Modular.{pow-cong}
use Rattle.plan.specs.declared.numbers.Plan.{Plan}
use Rattle.plan.specs.Numbers.{Within}
use Rattle.std.specs.Simd.{first_chunks}
use Rattle.program.specs.Steps.{last_register, table_at, kind_of, to_of, from_of, by_of, good_step, well_formed, assigned, stepped, registers, bootstraps, output}
use Rattle.program.specs.declared.running.Step.{Step}
use Rattle.program.specs.declared.running.Step.TheVariants.{Clear, Add, Boot}
use Rattle.program.specs.Reading.{Reads}
use Rattle.program.proofs.Lists.{step-number}
use Rattle.program.proofs.Pieces.{good_at}
use Rattle.program.proofs.Effects.{assigned-same, assigned-other}

-- cause 11
module _ (P : Plan) (steps : List ℕ) where
  pub well-formed : well_formed P steps ≡ true → (length steps % 4 ≡ 0) × ((i : ℕ) → i < length steps / 4 → good_at P steps i ≡ true)
  unfolding well_formed
  well-formed h =
      let hs = both_true (eqb (length steps % 4) 0) _ h in
      (eqb-true (length steps % 4) 0 hs.0, every-at (good_at P steps) (length steps / 4) hs.1)

pub record StepFacts (P : Plan) (kind to from by : ℕ) : Type 0 where
  pub to_low : to ≤ last_register P
  pub from_low : from ≤ last_register P
  pub weight : kind ≡ 1 → by < P.p
  pub kind_low : kind ≤ 2

pub step-facts : (P : Plan) (kind to from by : ℕ) → good_step P kind to from by ≡ true → StepFacts P kind to from by
unfolding good_step
step-facts P kind to from by h =
    let hs = both_true (leb kind 2 && (leb to (last_register P) && leb from (last_register P))) _ h in
    let h1 = both_true (leb kind 2) _ hs.0 in
    let h2 = both_true (leb to (last_register P)) (leb from (last_register P)) h1.1 in
    record {
      to_low = leb-true to (last_register P) h2.0;
      from_low = leb-true from (last_register P) h2.1;
      weight = λ e. ltb-true by P.p (at_one e hs.1);
      kind_low = leb-true kind 2 h1.0;
    }
  where
    at_one : kind ≡ 1 → cond (eqb kind 0) (eqb from 0 && eqb by 0) (cond (eqb kind 1) (ltb by P.p) (leb by (P.m + 1))) ≡ true → ltb by P.p ≡ true
    at_one e t = rw (ne_eqb kind 0 (λ z. omega arith), eq-eqb kind 1 e) at t

-- step i of a well-formed list, as the list that is cut into steps has it
pub record StepAt (P : Plan) (steps : List ℕ) (i : ℕ) (numbers : List ℕ) : Type 0 where
  pub inside : i < length steps / 4
  pub kind : at numbers 0 ≡ kind_of steps i
  pub to : at numbers 1 ≡ to_of steps i
  pub from : at numbers 2 ≡ from_of steps i
  pub by : at numbers 3 ≡ by_of steps i
  pub to_inside : at numbers 1 < 69
  pub from_inside : at numbers 2 < 69
  pub kind_low : at numbers 0 ≤ 2
  pub weight : at numbers 0 ≡ 1 → at numbers 3 < P.p

pub step-at : {P : Plan} {steps : List ℕ} {chunks : List (List ℕ)} (i : ℕ) → Within P → well_formed P steps ≡ true
    → chunks ≡ first_chunks 4 (length steps / 4) steps → length chunks ≡ length steps / 4 → i < length chunks
    → StepAt P steps i (get_or chunks i [])
step-at {P} {steps} {chunks} i within well cut size h =
    record {
      inside = inside;
      kind = kind;
      to = to;
      from = from;
      by = by;
      to_inside = omega (arith, to, facts.to_low, within.variable-limit);
      from_inside = omega (arith, from, facts.from_low, within.variable-limit);
      kind_low = omega (arith, kind, facts.kind_low);
      weight = λ e. omega (arith, by, facts.weight (sym kind ∙ e));
    }
  where
    inside : i < length steps / 4
    inside = omega arith

    number : (j : ℕ) → j < 4 → at (get_or chunks i []) j ≡ at steps (4 * i + j)
    number j l = ap (λ (xs : List (List ℕ)). at (get_or xs i []) j) cut ∙ step-number (length steps / 4) steps i j inside l

    kind : at (get_or chunks i []) 0 ≡ kind_of steps i
    kind = number 0 (omega arith) ∙ ap (at steps) (add-zero (4 * i))

    to : at (get_or chunks i []) 1 ≡ to_of steps i
    to = number 1 (omega arith)

    from : at (get_or chunks i []) 2 ≡ from_of steps i
    from = number 2 (omega arith)

    by : at (get_or chunks i []) 3 ≡ by_of steps i
    by = number 3 (omega arith)

    facts : StepFacts P (kind_of steps i) (to_of steps i) (from_of steps i) (by_of steps i)
    facts = step-facts P (kind_of steps i) (to_of steps i) (from_of steps i) (by_of steps i) ((well-formed P steps well).1 i inside)

-- the tables
pub small-inverse : (p : ℕ) → inverse p (4 % p) ≡ inverse p 4
unfolding inverse
small-inverse p = pow-cong p (4 % p) 4 (mod-mod 4 p) (p - 2)

pub square-small : (p z : ℕ) → 0 < p → square p z < p
unfolding square
square-small p z pos = mod-lt (z * z * inverse p 4) pos

pub minus-small : (p z : ℕ) → 0 < p → minus_square p z < p
unfolding minus_square
minus-small p z pos = mod-lt (p - square p z) pos

pub minus-zero : (p z r : ℕ) → r ≡ square p z → r ≡ 0 → 0 ≡ minus_square p z
unfolding minus_square
minus-zero p z r e zero-r =
    let k : p - square p z ≡ p = omega (arith, e, zero-r) in
    sym (ap (λ (n : ℕ). n % p) k ∙ mod_self p)

pub minus-other : (p z r : ℕ) → 0 < p → r ≡ square p z → r ≢ 0 → p - r ≡ minus_square p z
unfolding minus_square
minus-other p z r pos e other =
    let k : p - square p z < p = omega (arith, square-small p z pos) in
    ap (λ (n : ℕ). p - n) e ∙ sym (mod-eq_of_lt k)

-- a table's value is a residue
pub table-small : (P : Plan) (T : List ℕ) (k z : ℕ) → 0 < P.p → Residues P.p T → table_at P T k z < P.p
unfolding table_at
table-small P T k z pos residues = pick (ltb k P.m) (eqb k P.m)
  where
    pick : (a b : Bool) → cond a (at T (k * P.p + z)) (cond b (square P.p z) (minus_square P.p z)) < P.p
    pick true b = residues (k * P.p + z)
    pick false true = square-small P.p z pos
    pick false false = minus-small P.p z pos

-- one register set
set-assigned : (regs : List ℕ) (to v : ℕ) → to < length regs → at (set regs to v) ≡ assigned (at regs) to v
set-assigned regs to v h = fun_ext (λ k. elim (ℕ_discrete k to) [
  | yes e ↦ ap (at (set regs to v)) e ∙ get_or-set_same regs to v 0 h ∙ sym (ap (assigned (at regs) to v) e ∙ assigned-same (at regs) to v)
  | no e ↦ get_or-set_other regs to k v 0 e ∙ sym (assigned-other (at regs) to v k e)
])

set-residues : (p : ℕ) (regs : List ℕ) (to v : ℕ) → to < length regs → v < p → Residues p regs → Residues p (set regs to v)
set-residues p regs to v h small residues k = elim (ℕ_discrete k to) [
  | yes e ↦ rw (e, get_or-set_same regs to v 0 h) small
  | no e ↦ rw (get_or-set_other regs to k v 0 e) (residues k)
]

-- the run
module _ (P : Plan) (T steps digits : List ℕ) where
  pub record Running (k : ℕ) (regs : List ℕ) (count : ℕ) : Type 0 where
    pub within : k ≤ length steps / 4
    pub same : at regs ≡ registers P T steps digits k
    pub residues : Residues P.p regs
    pub counted : count ≡ sum (λ i. cond (eqb (kind_of steps i) 2) 1 0) k

  pub running_none : (regs : List ℕ) → at regs ≡ at digits → Residues P.p digits → Running 0 regs 0
  unfolding registers
  running_none regs same residues =
      record { within = omega arith; same = same; residues = λ k. subst (λ (f : ℕ → ℕ). f k < P.p) (sym same) (residues k); counted = sym (sum-zero _) }

  turn : {regs : List ℕ} {k count : ℕ} (v next : ℕ) → Running k regs count → length regs ≡ 69 → k < length steps / 4 → to_of steps k < 69 → v < P.p
      → stepped P T (at regs) (kind_of steps k) (to_of steps k) (from_of steps k) (by_of steps k) ≡ assigned (at regs) (to_of steps k) v
      → next ≡ count + cond (eqb (kind_of steps k) 2) 1 0
      → Running (k + 1) (set regs (to_of steps k) v) next
  unfolding registers
  turn {regs} {k} {count} v next r size h inside small step more =
      let fits : to_of steps k < length regs = rw size inside in
      record {
        within = omega arith;
        same =
            set-assigned regs (to_of steps k) v fits ∙ sym step
            ∙ ap (λ f. stepped P T f (kind_of steps k) (to_of steps k) (from_of steps k) (by_of steps k)) r.same
            ∙ ap (registers P T steps digits) (sym (add-one k));
        residues = set-residues P.p regs (to_of steps k) v fits small r.residues;
        counted = more ∙ ap (λ (n : ℕ). n + cond (eqb (kind_of steps k) 2) 1 0) r.counted ∙ sym (sum-next (λ i. cond (eqb (kind_of steps i) 2) 1 0) k);
      }

  module _ {regs numbers : List ℕ} {k count : ℕ} (r : Running k regs count) (size : length regs ≡ 69) (s : StepAt P steps k numbers) (pos : 0 < P.p) where
    abbrev Read : Step → Type 0
    Read step = Reads step (at numbers 0) (at numbers 1) (at numbers 2) (at numbers 3)

    inside : to_of steps k < 69
    inside = omega (arith, s.to, s.to_inside)

    pub running-clear : {to : ℕ} (out : List ℕ) → Read (Clear to) → out ≡ set regs to 0 → Running (k + 1) out count
    unfolding stepped
    running-clear {to} out read done =
        let e : kind_of steps k ≡ 0 = sym s.kind ∙ read.0 in
        let same : out ≡ set regs (to_of steps k) 0 = cc (s.to, read.1) in
        subst (λ (l : List ℕ). Running (k + 1) l count) (sym same) (turn 0 count r size s.inside inside pos (rw e) (rw e (omega arith)))

    pub running-add : {to from by : ℕ} (out : List ℕ) → Read (Add to from by) → out ≡ set regs to ((at regs to + by * at regs from) % P.p)
        → Running (k + 1) out count
    unfolding stepped
    running-add {to} {from} {by} out read done =
        let e : kind_of steps k ≡ 1 = sym s.kind ∙ read.0 in
        let same : out ≡ set regs (to_of steps k) ((at regs (to_of steps k) + by_of steps k * at regs (from_of steps k)) % P.p) =
        cc (s.to, s.from, s.by, read.1, read.2, read.3) in
        subst (λ (l : List ℕ). Running (k + 1) l count) (sym same) (turn _ count r size s.inside inside (mod-lt _ pos) (rw e) (rw e (omega arith)))

    pub running-boot : {to from by : ℕ} (out : List ℕ) → Read (Boot to from by) → out ≡ set regs to (table_at P T by (at regs from))
        → Residues P.p T → Running (k + 1) out (count + 1)
    unfolding stepped
    running-boot {to} {from} {by} out read done residues =
        let e : kind_of steps k ≡ 2 = sym s.kind ∙ read.0 in
        let same : out ≡ set regs (to_of steps k) (table_at P T (by_of steps k) (at regs (from_of steps k))) =
        cc (s.to, s.from, s.by, read.1, read.2, read.3) in
        subst (λ (l : List ℕ). Running (k + 1) l (count + 1)) (sym same)
        (turn _ (count + 1) r size s.inside inside (table-small P T _ _ pos residues) (rw e) (rw e))

  pub running-count : {regs : List ℕ} {k count : ℕ} → Running k regs count → count ≤ k
  running-count {regs} {k} {count} r =
      omega (arith, r.counted, sum-le (λ i. cond (eqb (kind_of steps i) 2) 1 0) 1 k (λ i l. low (eqb (kind_of steps i) 2)))
    where
      low : (b : Bool) → cond b 1 0 ≤ 1
      low true = omega arith
      low false = omega arith

  pub running-all : {regs : List ℕ} {k count : ℕ} → Running k regs count → length steps / 4 ≤ k
      → (at regs (last_register P) ≡ output P T steps digits) × (count ≡ bootstraps steps)
  unfolding output bootstraps
  running-all {regs} {k} {count} r h =
      let e : k ≡ length steps / 4 = omega (arith, r.within) in
      (ap (λ f. f (last_register P)) (r.same ∙ ap (registers P T steps digits) e), r.counted ∙ ap (sum (λ i. cond (eqb (kind_of steps i) 2) 1 0)) e)
