-- Every line that is not refused keeps what has been read as the plan asks for it.
--     sound-judged     one line
--     sound-pushes     the bytes of a text
--     lent             at the entries, the parts are as lent to any call
-- Assumes nothing.
use mathlib.Core.Path.{◌≡◌, refl, sym, subst, ◌∙◌}
use mathlib.Core.Bool.{Bool, true, false, cond, not}
use mathlib.Core.List.{List, [], ◌∷◌}
use Prim.Native.Nat.{ℕ, zero, suc, ◌+◌, ◌≤◌, ◌<◌}
use native.Mathlib.Nat.{le_antisymm}
use native.Mathlib.Omega.{arith}
use lib.Dec.{eqb, ltb}
use lib.ListN.{length, length-append}
use borrow.Author.Tests.{ltb-true, ltb-false, not-false}
use Rattle.lists.specs.Places.{sum, every, at, same}
use Rattle.lists.proofs.Sums.{sum-suc}
use Rattle.field.specs.Rows.{all_below}
use Rattle.field.proofs.Ranges.{below_both}
use Rattle.field.proofs.Ranges.{residues-of}
use Rattle.plan.specs.declared.numbers.Plan.{Plan}
use Rattle.plan.specs.Causes.{first}
use Rattle.plan.specs.Numbers.{variables, columns, product, radices_fit, number_causes, Within, Radices}
use Rattle.plan.specs.Parts.{Given, lend, Lent}
use Rattle.plan.proofs.Bounds.{prime-low}
use Rattle.plan.proofs.Refusals.{first-none, none-met}
use Rattle.plan.proofs.Limits.{within_of}
use Rattle.store.specs.Calls.{empty_store, file_causes}
use Rattle.store.proofs.Readiness.{empty-ready, unmet, filed-ready}
use Rattle.lines.specs.Lines.{asks, numbers}
use Rattle.lines.proofs.LineLaws.{asks-count}
use Rattle.text.specs.Meaning.{Place, names, header, radices, weights, table, products, entry_names, entries, Judged, next, cause, unless, more_weights, more_tables, more_products, after_links, after_products, header_causes, header_plan, radices_causes, line_causes, entry_causes, entered, judged, plan_names, pair_names}
use Rattle.text.specs.Streaming.{State, reading, stopped, turned, push, pushes, hold}
use Rattle.text.specs.Progress.{Planned}
use Rattle.text.specs.Sound.{Parts, Sound, SoundState}

-- a line after which there is a next place met none of its causes
unless-next : (k : ℕ) (place after : Place) → unless k place ≡ next after → (k ≡ 0) × (place ≡ after)
unless-next zero place after e = (refl, cc)
unless-next (suc k) place after e = let z : ◌≡◌ {A = ℕ} 0 1 = cc in absurd (omega arith)

-- a cause that comes first and is not met leaves the others
passed : (k : ℕ) (b : Bool) (rest : ℕ) → 0 < k → cond b k rest ≡ 0 → (b ≡ false) × (rest ≡ 0)
passed k true rest l e = absurd (omega arith)
passed k false rest l e = (refl, e)

-- a line of a part: as many numbers as asked for, all below p
part-line : (n p : ℕ) (line : List ℕ) → first (line_causes n p line) ≡ 0 → (length (numbers line) ≡ n) × (all_below p (numbers line) ≡ true)
part-line n p line e =
    let a = passed 13 (not (asks 5 n line)) (first ((5, not (all_below p (numbers line))) ∷ [])) (omega arith) e in
    let b = passed 5 (not (all_below p (numbers line))) 0 (omega arith) a.1 in
    (asks-count 5 n line (not-false (asks 5 n line) a.0), not-false (all_below p (numbers line)) b.0)

module _ (G : Given) where
  sound-products : (b : ℕ) → b ≤ G.numbers.t → Parts G G.numbers.m G.numbers.m b → Sound (after_products G b)
  unfolding Sound
  sound-products b l parts = by (ltb b G.numbers.t) refl
    where
      by : (c : Bool) → ltb b G.numbers.t ≡ c → Sound (cond c (products G b) (entry_names G))
      by true e = (ltb-true b G.numbers.t e, parts)
      by false e = subst (Parts G G.numbers.m G.numbers.m) (le_antisymm l (ltb-false b G.numbers.t e)) parts

  sound-links : (k : ℕ) → k ≤ G.numbers.m → Parts G k k 0 → Sound (after_links G k)
  unfolding Sound
  sound-links k l parts = by (ltb k G.numbers.m) refl
    where
      by : (c : Bool) → ltb k G.numbers.m ≡ c → Sound (cond c (weights G k) (after_products G 0))
      by true e = (ltb-true k G.numbers.m e, parts)
      by false e =
          let all = le_antisymm l (ltb-false k G.numbers.m e) in
          sound-products 0 (omega arith) (subst (λ (i : ℕ). Parts G i i 0) all parts)

  module _ {k l b : ℕ} (parts : Parts G k l b) (line : List ℕ) where
    more-weights : first (line_causes (G.numbers.n + k) G.numbers.p line) ≡ 0 → Parts (more_weights G (numbers line)) (suc k) l b
    more-weights e =
        let h = part-line (G.numbers.n + k) G.numbers.p line e in
        record {
          planned = parts.planned;
          radices = parts.radices;
          weights-length = length-append G.weights (numbers line) ∙ rw (parts.weights-length, h.0) (sym (sum-suc (λ i. G.numbers.n + i) k));
          tables-length = parts.tables-length;
          products-length = parts.products-length;
          weights-below = below_both G.numbers.p G.weights (numbers line) parts.weights-below h.1;
          tables-below = parts.tables-below;
          products-below = parts.products-below;
        }

    more-tables : first (line_causes G.numbers.p G.numbers.p line) ≡ 0 → Parts (more_tables G (numbers line)) k (suc l) b
    more-tables e =
        let h = part-line G.numbers.p G.numbers.p line e in
        record {
          planned = parts.planned;
          radices = parts.radices;
          weights-length = parts.weights-length;
          tables-length = length-append G.tables (numbers line) ∙ rw (parts.tables-length, h.0) (omega arith);
          products-length = parts.products-length;
          weights-below = parts.weights-below;
          tables-below = below_both G.numbers.p G.tables (numbers line) parts.tables-below h.1;
          products-below = parts.products-below;
        }

    more-products : first (line_causes (variables G.numbers) G.numbers.p line) ≡ 0 → Parts (more_products G (numbers line)) k l (suc b)
    more-products e =
        let h = part-line (variables G.numbers) G.numbers.p line e in
        record {
          planned = parts.planned;
          radices = parts.radices;
          weights-length = parts.weights-length;
          tables-length = parts.tables-length;
          products-length = length-append G.products (numbers line) ∙ rw (parts.products-length, h.0) (omega arith);
          weights-below = parts.weights-below;
          tables-below = parts.tables-below;
          products-below = below_both G.numbers.p G.products (numbers line) parts.products-below h.1;
        }

  pub lent : Parts G G.numbers.m G.numbers.m G.numbers.t → Lent G
  lent parts =
      let pos : 0 < G.numbers.p = omega (arith, prime-low parts.planned.0) in
      record {
        radices = parts.radices;
        weights-length = parts.weights-length;
        tables-length = parts.tables-length;
        products-length = parts.products-length;
        weights-residues = residues-of G.numbers.p G.weights pos parts.weights-below;
        tables-residues = residues-of G.numbers.p G.tables pos parts.tables-below;
        products-residues = residues-of G.numbers.p G.products pos parts.products-below;
      }

-- before any other part than the radices is read
no-parts : (P : Plan) (R : List ℕ) → Planned P → Radices P R → Parts (lend P R [] [] []) 0 0 0
unfolding sum every
no-parts P R h rs =
    record {
      planned = h;
      radices = rs;
      weights-length = refl;
      tables-length = omega arith;
      products-length = omega arith;
      weights-below = refl;
      tables-below = refl;
      products-below = refl;
    }

-- the values line: its plan is within its limits, and C at most 360
planned-of : (P : Plan) → first (header_causes P) ≡ 0 → Planned P
planned-of P e =
    let h = first-none (number_causes P.p P.s P.n P.m P.t []) ((14, ltb 360 (columns P)) ∷ []) (omega arith) e in
    (within_of P.p P.s P.n P.m P.t [] h.0, ltb-false 360 (columns P) (passed 14 (ltb 360 (columns P)) 0 (omega arith) h.1).0)

-- the radices line: n radices, each 2 to p, with a product within the limit
radices-line : (P : Plan) (line : List ℕ) → first (radices_causes P.n P.p line) ≡ 0 → Radices P (numbers line)
radices-line P line e =
    let none = none-met (radices_causes P.n P.p line) (omega arith) e in
    record {
      count = asks-count 5 P.n line (not-false (asks 5 P.n line) none.0);
      fit = not-false (radices_fit P.p (numbers line)) none.1.0;
      limit = ltb-false 4096 (product (numbers line)) none.1.1.0;
    }

pub sound-judged : (place : Place) (line : List ℕ) (after : Place) → Sound place → judged place line ≡ next after → Sound after
unfolding judged Sound
sound-judged names line after s e = subst Sound (unless-next (first ((13, not (same line plan_names)) ∷ [])) header after e).1 tt
sound-judged header line after s e =
    let P = header_plan (numbers line) in
    let u = unless-next (first ((13, not (asks 5 5 line)) ∷ header_causes P)) (radices P) after e in
    let h = passed 13 (not (asks 5 5 line)) (first (header_causes P)) (omega arith) u.0 in
    subst Sound u.1 (planned-of P h.1)
sound-judged (radices P) line after s e =
    let G = lend P (numbers line) [] [] [] in
    let u = unless-next (first (radices_causes P.n P.p line)) (after_links G 0) after e in
    subst Sound u.1 (sound-links G 0 (omega arith) (no-parts P (numbers line) s (radices-line P line u.0)))
sound-judged (weights G k) line after s e =
    let u = unless-next (first (line_causes (G.numbers.n + k) G.numbers.p line)) (table (more_weights G (numbers line)) k) after e in
    subst Sound u.1 (s.0, more-weights G s.1 line u.0)
sound-judged (table G k) line after s e =
    let u = unless-next (first (line_causes G.numbers.p G.numbers.p line)) (after_links (more_tables G (numbers line)) (suc k)) after e in
    subst Sound u.1 (sound-links (more_tables G (numbers line)) (suc k) (omega (arith, s.0)) (more-tables G s.1 line u.0))
sound-judged (products G b) line after s e =
    let u = unless-next (first (line_causes (variables G.numbers) G.numbers.p line)) (after_products (more_products G (numbers line)) (suc b)) after e in
    subst Sound u.1 (sound-products (more_products G (numbers line)) (suc b) (omega (arith, s.0)) (more-products G s.1 line u.0))
sound-judged (entry_names G) line after s e =
    let u = unless-next (first ((13, not (same line pair_names)) ∷ [])) (entries G (empty_store G.numbers)) after e in
    subst Sound u.1 (s, empty-ready G.numbers s.planned.0)
sound-judged (entries G S) line after s e =
    let i = at (numbers line) 0 in
    let v = at (numbers line) 1 in
    let u = unless-next (first (entry_causes G S line)) (entries G (entered G S line)) after e in
    let h = passed 13 (not (asks 5 2 line)) (first (file_causes G S i v)) (omega arith) u.0 in
    let within : Within G.numbers = s.0.planned.0 in
    subst Sound u.1 (s.0, filed-ready G S i v within (lent G s.0) (omega (arith, (unmet G S i v h.1).below, within.value-high)) s.1)

sound-push : (state : State) (x : ℕ) → SoundState state → SoundState (push state x)
unfolding push SoundState
sound-push (reading j held place) x s = by (eqb x 10)
  where
    line : (o : Judged) → judged place held ≡ o → SoundState (turned j o)
    line (next after) e = sound-judged place held after s e
    line (cause k) e = tt

    by : (b : Bool) → SoundState (cond b (turned j (judged place held)) (reading j (hold held x) place))
    by true = line (judged place held) refl
    by false = s
sound-push (stopped k j) x s = tt

pub sound-pushes : (state : State) (xs : List ℕ) → SoundState state → SoundState (pushes state xs)
unfolding pushes
sound-pushes state [] s = s
sound-pushes state (x ∷ xs) s = sound-pushes (push state x) xs (sound-push state x s)
