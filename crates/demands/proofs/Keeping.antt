-- What is true before and after each call of a list of filings and withdrawals. `Keeps G F K`: the store of F holds the entries K (`Held` of
-- `Turns`), and the listed pairs are these, each entry once; the records are as many as the plan asks.
--     keeps-start           before the first call
--     keeps-joined          after a filing that is kept: its entry has its value where it is listed, and else there is a record left for it
--     keeps-withdrawn       after a withdrawal: the remaining list, filed again
-- Assumes nothing.
use mathlib.Core.Path.{◌≡◌, refl, sym, ap, ◌∙◌}
use mathlib.Core.Bool.{Bool, true, false, cond}
use mathlib.Core.List.{List, [], ◌∷◌, ◌++◌, Memᴰ}
use mathlib.Core.Logic.{⊎_elim}
use Prim.Native.Nat.{ℕ, ◌+◌, ◌≤◌, ◌<◌}
use native.Mathlib.Omega.{arith}
use lib.ListN.{length, set, length-set}
use Rattle.plan.specs.Numbers.{product}
use Rattle.plan.specs.Parts.{Given}
use Rattle.store.specs.Calls.{filed}
use Rattle.records.specs.declared.Record.{Record}
use Rattle.records.specs.Listed.{record_of}
use Rattle.ledger.specs.Lists.{Pair, has, distinct, place_of, value_of, without}
use Rattle.ledger.specs.Calls.{Filled, filled, listed, joined, withdrawn}
use Rattle.ledger.proofs.EntryLists.{value-mem, distinct_snoc, distinct_without, without-mem, without-place, short, pairs-length, pairs-joined, pairs-removed, removed-length}
use Rattle.demands.specs.Demand3.{Accepted}
use Rattle.demands.specs.Withdrawals.{start}
use Rattle.demands.proofs.Turns.{Held, held-empty}
use Rattle.demands.proofs.Refiling.{Alike, held_same, one_value, refiled}

pub record Keeps (G : Given) (F : Filled) (K : List Pair) : Type 0 where
  pub wide : length F.records ≡ product G.radices
  pub fits : F.count ≤ length F.records
  pub held : Held G F.store K
  pub once : distinct (listed F) ≡ true
  pub alike : Alike K (listed F)

pub keeps-start : (G : Given) → Accepted G → (records : List Record) → length records ≡ product G.radices → Keeps G (start G records) []
unfolding distinct
keeps-start G accepted records wide =
    record { wide = wide; fits = omega arith; held = held-empty G accepted; once = refl; alike = λ i v. ((λ m. m), (λ m. m)) }

module _ (G : Given) (accepted : Accepted G) (F : Filled) (K : List Pair) (h : Keeps G F K) where
  abbrev S : List ℕ
  S = F.store

  abbrev l : List Pair
  l = listed F

  pub keeps-joined : (i v : ℕ) → Held G (filed G S i v) (K ++ ((i, v) ∷ [])) → Keeps G (joined G F i v) (K ++ ((i, v) ∷ []))
  keeps-joined i v g = by (has l i) refl
    where
      new : Memᴰ (i, v) (K ++ ((i, v) ∷ []))
      new = mathlib.Core.List.Memᴰ.append_right K (mathlib.Core.List.Memᴰ.head refl)

      by : (b : Bool) → has l i ≡ b
          → Keeps G (filled (filed G S i v) (cond b F.records (set F.records F.count (record_of i v))) (cond b F.count (F.count + 1))) (K ++ ((i, v) ∷ []))
      by true e =
          let old : Memᴰ (i, value_of l i) K = (h.alike i (value_of l i)).1 (value-mem l i e) in
          let same : v ≡ value_of l i = one_value G accepted (filed G S i v) (K ++ ((i, v) ∷ [])) g i v (value_of l i) new (mathlib.Core.List.Memᴰ.append_left ((i, v) ∷ []) old) in
          record {
            wide = h.wide;
            fits = h.fits;
            held = g;
            once = h.once;
            alike = λ j u. (
              (λ m. ⊎_elim (h.alike j u).0
                  (λ n. mathlib.Core.List.Memᴰ.cast (mathlib.Core.List.Memᴰ.eq_of_singleton n ∙ ap (λ (x : ℕ). (i, x)) same) (value-mem l i e)) (mathlib.Core.List.Memᴰ.append_cases K m)),
              (λ m. mathlib.Core.List.Memᴰ.append_left ((i, v) ∷ []) ((h.alike j u).1 m)),
            );
          }
      by false e =
          let free : F.count < length F.records =
          omega (
            arith,
            h.wide,
            pairs-length F.records F.count h.fits,
            short (product G.radices) l i h.once
                (λ j u m. (h.held.ranges j u ((h.alike j u).1 m)).0) (g.ranges i v new).0 e,
          ) in
          let list = pairs-joined F.records F.count i v free in
          record {
            wide = length-set F.records F.count (record_of i v) ∙ h.wide;
            fits = rw length-set (omega arith);
            held = g;
            once = ap distinct list ∙ distinct_snoc l i v h.once e;
            alike = λ j u. rw list (
              (λ m. ⊎_elim (λ n. mathlib.Core.List.Memᴰ.append_left ((i, v) ∷ []) ((h.alike j u).0 n)) (mathlib.Core.List.Memᴰ.append_right l) (mathlib.Core.List.Memᴰ.append_cases K m)),
              (λ m. ⊎_elim (λ n. mathlib.Core.List.Memᴰ.append_left ((i, v) ∷ []) ((h.alike j u).1 n)) (mathlib.Core.List.Memᴰ.append_right K) (mathlib.Core.List.Memᴰ.append_cases l m)),
            );
          }

  pub keeps-withdrawn : (i : ℕ) → has l i ≡ true → Keeps G (withdrawn G F i) (without K i)
  keeps-withdrawn i here =
      let place = without-place l i h.once here in
      let inside : place_of l i < F.count = omega (arith, place.0, pairs-length F.records F.count h.fits) in
      let T : List ℕ = (withdrawn G F i).store in
      let list : listed (withdrawn G F i) ≡ without l i = pairs-removed F.records F.count (place_of l i) inside h.fits ∙ sym place.1 in
      record {
        wide = removed-length F.records F.count (place_of l i) inside h.fits ∙ h.wide;
        fits = omega (arith, h.fits, removed-length F.records F.count (place_of l i) inside h.fits);
        held = held_same G T (without l i) (without K i) left (refiled G accepted S K h.held (without l i) (λ j u m. (h.alike j u).1 ((without-mem l i j u).0 m).0)).1;
        once = ap distinct list ∙ distinct_without l i h.once;
        alike = λ j u. rw list ((left j u).1, (left j u).0);
      }
    where
      left : Alike (without l i) (without K i)
      left j u = (
        (λ m. let x = (without-mem l i j u).0 m in (without-mem K i j u).1 ((h.alike j u).1 x.0, x.1)),
        (λ m. let x = (without-mem K i j u).0 m in (without-mem l i j u).1 ((h.alike j u).0 x.0, x.1)),
      )
