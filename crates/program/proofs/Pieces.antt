-- Lists of steps, piece by piece: a list is made of pieces of whole steps, and what holds of the pieces holds of the list.
--     Whole xs                the list has whole steps alone
--     same-front, same_back   the steps of two lists one after the other are those of the first and then those of the second
--     runs, ends              a run of the first k steps, or of all steps, from any registers; registers-runs ties them to `registers`
--     Goes xs f g             the run over xs goes from the registers f to the registers g; goes_then, goes-joined
--     good_at xs i, Good xs   step i, and each step, passes cause 11; good-then, good-joined
--     Boots xs c              the list has c kind 2 steps; boots-then, boots-joined
-- Assumes nothing.
use mathlib.Core.Path.{◌≡◌, refl, ap, ap₂, ◌∙◌}
use mathlib.Core.Bool.{Bool, true, cond}
use mathlib.Core.List.{List, [], ◌∷◌, ◌++◌}
use Prim.Native.Nat.{ℕ, zero, suc, ◌+◌, ◌-◌, ◌*◌, ◌/◌, ◌%◌, ◌≤◌, ◌<◌}
use native.Mathlib.Decide.{dec_lt}
use native.Mathlib.Nat.{le_step, lt-suc_self, zero-add}
use native.Mathlib.Omega.{arith}
use lib.Dec.{eqb}
use lib.ListN.{length, length-append, get_or-append}
use lib.Seq.{get_or-append-add}
use Rattle.lists.specs.Places.{sum, joined, at}
use Rattle.lists.proofs.Sums.{sum-append, sum-ext}
use Rattle.lists.proofs.Tests.{every_of, both}
use borrow.Author.Tests.{eq-eqb}
use Rattle.plan.specs.declared.numbers.Plan.{Plan}
use Rattle.program.specs.Steps.{kind_of, to_of, from_of, by_of, good_step, well_formed, Registers, stepped, registers, bootstraps}

abbrev pub Whole : List ℕ → Type 0
Whole xs = length xs % 4 ≡ 0

-- step i of xs is step j of ys
pub record Same (xs : List ℕ) (i : ℕ) (ys : List ℕ) (j : ℕ) : Type 0 where
  pub kind : kind_of xs i ≡ kind_of ys j
  pub to : to_of xs i ≡ to_of ys j
  pub from : from_of xs i ≡ from_of ys j
  pub by : by_of xs i ≡ by_of ys j

behind : (xs ys : List ℕ) (i k : ℕ) → i ≡ length xs + k → at (xs ++ ys) i ≡ at ys k
behind xs ys i k e = ap (at (xs ++ ys)) e ∙ get_or-append-add xs ys k 0

pub same-front : (xs ys : List ℕ) (i : ℕ) → i < length xs / 4 → Same (xs ++ ys) i xs i
same-front xs ys i h =
    record {
      kind = get_or-append xs ys 0 (4 * i) (omega arith);
      to = get_or-append xs ys 0 (4 * i + 1) (omega arith);
      from = get_or-append xs ys 0 (4 * i + 2) (omega arith);
      by = get_or-append xs ys 0 (4 * i + 3) (omega arith);
    }

pub same_back : (xs ys : List ℕ) (i : ℕ) → Whole xs → Same (xs ++ ys) (length xs / 4 + i) ys i
same_back xs ys i whole =
    record {
      kind = behind xs ys (4 * (length xs / 4 + i)) (4 * i) (omega arith);
      to = behind xs ys (4 * (length xs / 4 + i) + 1) (4 * i + 1) (omega arith);
      from = behind xs ys (4 * (length xs / 4 + i) + 2) (4 * i + 2) (omega arith);
      by = behind xs ys (4 * (length xs / 4 + i) + 3) (4 * i + 3) (omega arith);
    }

pub whole-then : (xs ys : List ℕ) → Whole xs → Whole ys → Whole (xs ++ ys)
whole-then xs ys hx hy = rw length-append (omega arith)

count-then : (xs ys : List ℕ) → Whole xs → length (xs ++ ys) / 4 ≡ length xs / 4 + length ys / 4
count-then xs ys hx = rw length-append (omega arith)

-- step i of a list meets none of the conditions of cause 11, as a test
abbrev pub good_at : Plan → List ℕ → ℕ → Bool
good_at P xs i = good_step P (kind_of xs i) (to_of xs i) (from_of xs i) (by_of xs i)

module _ (P : Plan) where
  pub record Good (xs : List ℕ) : Type 0 where
    pub whole : Whole xs
    pub each : (i : ℕ) → i < length xs / 4 → good_at P xs i ≡ true

  good-same : (xs ys : List ℕ) (i j : ℕ) → Same xs i ys j → good_at P ys j ≡ true → good_at P xs i ≡ true
  good-same xs ys i j s h = rw (s.kind, s.to, s.from, s.by) h

  pub good-then : {xs ys : List ℕ} → Good xs → Good ys → Good (xs ++ ys)
  good-then {xs} {ys} gx gy =
      record {
        whole = whole-then xs ys gx.whole gy.whole;
        each = λ i h. elim (dec_lt i (length xs / 4)) [
          | yes l ↦ good-same (xs ++ ys) xs i i (same-front xs ys i l) (gx.each i l)
          | no l ↦
              let e : length xs / 4 + (i - length xs / 4) ≡ i = omega arith in
              let k : i - length xs / 4 < length ys / 4 = omega (arith, count-then xs ys gx.whole) in
              let s : Same (xs ++ ys) i ys (i - length xs / 4) = rw e at (same_back xs ys (i - length xs / 4) gx.whole) in
              good-same (xs ++ ys) ys i (i - length xs / 4) s (gy.each (i - length xs / 4) k)
        ];
      }

  pub good_none : Good []
  good_none = record { whole = refl; each = λ i h. absurd (omega arith) }

  pub good-joined : (F : ℕ → List ℕ) (n : ℕ) → ((k : ℕ) → k < n → Good (F k)) → Good (joined F n)
  unfolding joined
  good-joined F zero h = good_none
  good-joined F (suc n) h = good-then (good-joined F n (λ k l. h k (le_step l))) (h n (lt-suc_self n))

  pub good-step : (kind to from by : ℕ) → good_step P kind to from by ≡ true → Good (kind ∷ to ∷ from ∷ by ∷ [])
  good-step kind to from by h = record { whole = refl; each = λ i l. let e : i ≡ 0 = omega arith in rw e h }

  pub good-well_formed : {xs : List ℕ} → Good xs → well_formed P xs ≡ true
  unfolding well_formed
  good-well_formed {xs} g =
      both (eqb (length xs % 4) 0) _ (eq-eqb (length xs % 4) 0 g.whole)
      (every_of (good_at P xs) (length xs / 4) g.each)

pub record Boots (xs : List ℕ) (c : ℕ) : Type 0 where
  pub whole : Whole xs
  pub count : bootstraps xs ≡ c

pub boots-then : {xs ys : List ℕ} {a b : ℕ} → Boots xs a → Boots ys b → Boots (xs ++ ys) (a + b)
unfolding bootstraps
boots-then {xs} {ys} {a} {b} bx by =
    record {
      whole = whole-then xs ys bx.whole by.whole;
      count =
          ap (sum (term (xs ++ ys))) (count-then xs ys bx.whole)
          ∙ sum-append (term (xs ++ ys)) (length xs / 4) (length ys / 4)
          ∙ ap₂ ◌+◌
          (sum-ext (term (xs ++ ys)) (term xs) (length xs / 4) (λ i l. ap (λ (k : ℕ). cond (eqb k 2) 1 0) (same-front xs ys i l).kind) ∙ bx.count)
          (sum-ext (λ i. term (xs ++ ys) (length xs / 4 + i)) (term ys) (length ys / 4) (λ i l. ap (λ (k : ℕ). cond (eqb k 2) 1 0) (same_back xs ys i bx.whole).kind) ∙ by.count);
    }
  where
    term : List ℕ → ℕ → ℕ
    term zs i = cond (eqb (kind_of zs i) 2) 1 0

pub boots-none : Boots [] 0
unfolding bootstraps sum
boots-none = record { whole = refl; count = refl }

pub boots-step : (kind to from by : ℕ) → Boots (kind ∷ to ∷ from ∷ by ∷ []) (cond (eqb kind 2) 1 0)
unfolding bootstraps sum
boots-step kind to from by = record { whole = refl; count = zero-add (cond (eqb kind 2) 1 0) }

pub boots-joined : (F : ℕ → List ℕ) (c n : ℕ) → ((k : ℕ) → k < n → Boots (F k) c) → Boots (joined F n) (n * c)
unfolding joined
boots-joined F c zero h = record { whole = refl; count = boots-none.count ∙ omega arith }
boots-joined F c (suc n) h =
    let e : n * c + c ≡ suc n * c = omega arith in
    rw e at (boots-then (boots-joined F c n (λ k l. h k (le_step l))) (h n (lt-suc_self n)))

module _ (P : Plan) (T : List ℕ) where
  unfoldable pub runs : Registers → List ℕ → ℕ → Registers
  runs f xs zero = f
  runs f xs (suc k) = stepped P T (runs f xs k) (kind_of xs k) (to_of xs k) (from_of xs k) (by_of xs k)

  pub registers-runs : (xs digits : List ℕ) (k : ℕ) → registers P T xs digits k ≡ runs (at digits) xs k
  unfolding registers runs
  registers-runs xs digits zero = refl
  registers-runs xs digits (suc k) = rw (registers-runs xs digits k)

  abbrev pub ends : Registers → List ℕ → Registers
  ends f xs = runs f xs (length xs / 4)

  stepped_same : (f g : Registers) (xs ys : List ℕ) (i j : ℕ) → f ≡ g → Same xs i ys j
      → stepped P T f (kind_of xs i) (to_of xs i) (from_of xs i) (by_of xs i) ≡ stepped P T g (kind_of ys j) (to_of ys j) (from_of ys j) (by_of ys j)
  stepped_same f g xs ys i j e s = rw (e, s.kind, s.to, s.from, s.by)

  runs-front : (f : Registers) (xs ys : List ℕ) (k : ℕ) → k ≤ length xs / 4 → runs f (xs ++ ys) k ≡ runs f xs k
  unfolding runs
  runs-front f xs ys zero h = refl
  runs-front f xs ys (suc k) h =
      stepped_same (runs f (xs ++ ys) k) (runs f xs k) (xs ++ ys) xs k k (runs-front f xs ys k (omega arith)) (same-front xs ys k h)

  runs-back : (f : Registers) (xs ys : List ℕ) (k : ℕ) → Whole xs → runs f (xs ++ ys) (length xs / 4 + k) ≡ runs (ends f xs) ys k
  unfolding runs
  runs-back f xs ys zero whole =
      let e : length xs / 4 + 0 ≡ length xs / 4 = omega arith in
      rw e (runs-front f xs ys (length xs / 4) (omega arith))
  runs-back f xs ys (suc k) whole =
      let e : length xs / 4 + suc k ≡ suc (length xs / 4 + k) = omega arith in
      rw e
      (stepped_same (runs f (xs ++ ys) (length xs / 4 + k)) (runs (ends f xs) ys k) (xs ++ ys) ys (length xs / 4 + k) k
      (runs-back f xs ys k whole) (same_back xs ys k whole))

  pub record Goes (xs : List ℕ) (f g : Registers) : Type 0 where
    pub whole : Whole xs
    pub end : ends f xs ≡ g

  pub goes_then : {xs ys : List ℕ} {f g h : Registers} → Goes xs f g → Goes ys g h → Goes (xs ++ ys) f h
  goes_then {xs} {ys} {f} {g} {h} x y =
      record {
        whole = whole-then xs ys x.whole y.whole;
        end =
            ap (runs f (xs ++ ys)) (count-then xs ys x.whole)
            ∙ runs-back f xs ys (length ys / 4) x.whole
            ∙ ap (λ (e : Registers). ends e ys) x.end
            ∙ y.end;
      }

  pub goes_to : {xs : List ℕ} {f g h : Registers} → Goes xs f g → g ≡ h → Goes xs f h
  goes_to x e = record { whole = x.whole; end = x.end ∙ e }

  pub goes_none : (f : Registers) → Goes [] f f
  unfolding runs
  goes_none f = record { whole = refl; end = refl }

  pub goes_step : (f : Registers) (kind to from by : ℕ) → Goes (kind ∷ to ∷ from ∷ by ∷ []) f (stepped P T f kind to from by)
  unfolding runs
  goes_step f kind to from by = record { whole = refl; end = refl }

  -- the run of a list is where its pieces lead
  pub goes-registers : {xs : List ℕ} (digits : List ℕ) {g : Registers} → Goes xs (at digits) g → registers P T xs digits (length xs / 4) ≡ g
  goes-registers {xs} digits x = registers-runs xs digits (length xs / 4) ∙ x.end

  -- a state that each piece carries on is carried on by all of them
  pub goes-joined : (F : ℕ → List ℕ) (S : ℕ → Registers → Type 0) (n : ℕ) (f : Registers) → S 0 f
      → ((k : ℕ) (g : Registers) → k < n → S k g → (h : Registers) × Goes (F k) g h × S (suc k) h)
      → (h : Registers) × Goes (joined F n) f h × S n h
  unfolding joined
  goes-joined F S zero f s turn = (f, goes_none f, s)
  goes-joined F S (suc n) f s turn =
      let r = goes-joined F S n f s (λ k g l. turn k g (le_step l)) in
      let q = turn n r.0 (lt-suc_self n) r.2 in
      (q.0, goes_then r.1 q.1, q.2)
