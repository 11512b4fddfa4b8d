-- 02, C-12, "While typing in a table, people want to know which outputs are settled": what `settle` answers after a list of calls, in the words of
-- its contract, told from the entries kept alone; of filings, and of filings and withdrawals (02, C-18). Stands on `Demand3` and `Withdrawals`, and on
-- the answer of `settle`.
--     AllGive G K i v             all coefficients that reproduce every entry of K give v at entry i
--     Settlement G S K i          of a store S and the entries K kept: Forced v is answered exactly when all coefficients that reproduce the kept
--                                 entries give v, Free exactly when they give no one residue, and a kept entry is forced with its value
--     SettledAfter G fs i         that, of the store and the entries kept after the filings fs
--     SettledWith G records cs i  that, of those after the filings and withdrawals cs, with the records lent
use Rattle.std.specs.Prelude.{◌≡◌, ◌↔◌, ℕ, ◌%◌, length, Ok}
use mathlib.Core.List.{List, [], Memᴰ}
use Rattle.field.specs.Residues.{Residues}
use Rattle.plan.specs.Numbers.{columns}
use Rattle.plan.specs.Parts.{Given}
use Rattle.plan.specs.Equation.{reproduced}
use Rattle.store.specs.Settled.{settle_answer, answer_of}
use Rattle.store.specs.declared.settling.Settled.TheVariants.{Forced, Free}
use Rattle.records.specs.declared.Record.{Record}
use Rattle.demands.specs.Demand3.{Filing, empty_store, store_of, kept_of, Reproduces}
use Rattle.demands.specs.Withdrawals.{Change, filled_of, kept_with, start}

abbrev pub AllGive : Given → List (ℕ × ℕ) → ℕ → ℕ → Type 0
AllGive G K i v =
    (β : List ℕ) → length β ≡ columns G.numbers → Residues G.numbers.p β
    → ((j u : ℕ) → Memᴰ (j, u) K → Reproduces G β j u) → reproduced G i β % G.numbers.p ≡ v

pub record Settlement (G : Given) (S : List ℕ) (K : List (ℕ × ℕ)) (i : ℕ) : Type 0 where
  pub when-forced : (v : ℕ) → (settle_answer G S i ≡ answer_of (Ok (Forced v))) ↔ AllGive G K i v
  pub when-free : ((c : ℕ) × (settle_answer G S i ≡ answer_of (Ok (Free c)))) ↔ ((v : ℕ) → AllGive G K i v → ⊥)
  pub when-kept : (v : ℕ) → Memᴰ (i, v) K → settle_answer G S i ≡ answer_of (Ok (Forced v))

abbrev pub SettledAfter : Given → List Filing → ℕ → Type 0
SettledAfter G fs i = Settlement G (store_of G (empty_store G) fs) (kept_of G (empty_store G) fs) i

-- the entries kept are those "kept earlier and not withdrawn since"
abbrev pub SettledWith : Given → List Record → List Change → ℕ → Type 0
SettledWith G records cs i = Settlement G (filled_of G (start G records) cs).store (kept_with G (start G records) [] cs) i
