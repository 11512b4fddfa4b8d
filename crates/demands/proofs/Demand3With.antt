-- Demand 3 with records, proved: one claim about every list of filings and withdrawals under one accepted plan, by induction over the list.
--     keeps-after       what is kept up by a list of calls
--     demand3-with      the claim
-- Assumes nothing.
use mathlib.Core.Path.{◌≡◌, subst}
use mathlib.Core.Bool.{cond}
use mathlib.Core.List.{List, [], ◌∷◌, ◌++◌}
use lib.ListN.{length}
use Rattle.plan.specs.Numbers.{product}
use Rattle.plan.specs.Parts.{Given}
use Rattle.records.specs.declared.Record.{Record}
use Rattle.ledger.specs.Lists.{Pair}
use Rattle.ledger.specs.Calls.{Filled}
use Rattle.demands.specs.Demand3.{Accepted}
use Rattle.demands.specs.Withdrawals.{Change, ours, other, done, after, BelongsWith, filled_of, kept_by, kept_with, start, TurnWith, Demand3With}
use Rattle.demands.proofs.Programs.{is-program}
use Rattle.demands.proofs.Keeping.{Keeps, keeps-start}
use Rattle.demands.proofs.Records.{unchanged, acts, keeps-act}

-- the calls before a place of the list belong to such a list, and so do those from it on
belongs-split : (G : Given) (before later : List Change) → BelongsWith G (before ++ later) → BelongsWith G before × BelongsWith G later
unfolding BelongsWith
belongs-split G [] later b = (tt, b)
belongs-split G (ours work act ∷ before) later b = let r = belongs-split G before later b.1 in ((b.0, r.0), r.1)
belongs-split G (other G' F work act ∷ before) later b = let r = belongs-split G before later b.1 in ((b.0, r.0), r.1)

module _ (G : Given) (accepted : Accepted G) where
  pub keeps-after : (cs : List Change) (F : Filled) (K : List Pair) → BelongsWith G cs → Keeps G F K → Keeps G (filled_of G F cs) (kept_with G F K cs)
  unfolding BelongsWith filled_of kept_with
  keeps-after [] F K b h = h
  keeps-after (ours work act ∷ cs) F K b h =
      keeps-after cs (after G F work act) (cond (done G F work act) (kept_by act K) K) b.1 (keeps-act G accepted F K h work b.0 act)
  keeps-after (other G' F' work act ∷ cs) F K b h = keeps-after cs F K b.1 h

  turn-with : (c : Change) (later : List Change) (F : Filled) (K : List Pair) → Keeps G F K → BelongsWith G (c ∷ later) → TurnWith G F K c
  unfolding BelongsWith
  turn-with (ours work act) later F K h b = (unchanged G F work act, acts G accepted F K h work b.0 act)
  turn-with (other G' F' work act) later F K h b = unchanged G' F' work act b.0

pub demand3-with : (G : Given) → Accepted G → (records : List Record) → length records ≡ product G.radices → (cs : List Change) → BelongsWith G cs
    → Demand3With G records cs
demand3-with G accepted records wide cs belongs =
    let F = start G records in
    let h = keeps-start G accepted records wide in
    record {
      turns = λ before c later e.
          let b = belongs-split G before (c ∷ later) (subst (BelongsWith G) e belongs) in
          turn-with G accepted c later (filled_of G F before) (kept_with G F [] before) (keeps-after G accepted before F [] b.0 h) b.1;
      program = is-program G accepted (filled_of G F cs).store (kept_with G F [] cs) (keeps-after G accepted cs F [] belongs h).held;
    }
