-- The chain of variables: how many there are, that each is a residue, and the chain with its next link.
--     chain_length, chain-residues       n + k variables, each below p
--     values_length, values-residues     the same for all L of them
--     link-room, table-room              link k's weights and table lie within their parts
--     link-of-parts                      a link's value from its part of the weights and its part of the tables
--     Linked, linked-none, linked-next, linked-all       a loop that writes link after link behind the digits
-- Assumes nothing.
use mathlib.Core.Path.{◌≡◌, sym, ap, ap₂, ◌∙◌}
use mathlib.Core.List.{List, [], ◌∷◌, ◌++◌}
use Prim.Native.Nat.{ℕ, zero, suc, ◌+◌, ◌-◌, ◌*◌, ◌%◌, ◌≤◌, ◌<◌}
use native.Mathlib.Nat.{add-zero, add-suc, add-sub_cancel_left, mul-le-mul_right, mod-lt}
use native.Mathlib.Numerals.{add-one}
use native.Mathlib.Omega.{arith}
use lib.ListN.{length, set, take, drop, length-append, length-drop, length-set}
use lib.Seq.{take_at, take_all, take-suc-set}
use Rattle.lists.specs.Places.{sum, at}
use Rattle.lists.proofs.Sums.{sum-zero, sum-suc, sum-next, sum-ext, sum_mono}
use Rattle.lists.proofs.Tabs.{tab-length}
use Rattle.lists.proofs.Parts.{part_at, cut-length}
use Rattle.field.specs.Residues.{Residues}
use Rattle.field.specs.Rows.{dot}
use Rattle.field.proofs.Ranges.{residues-tab, residues-snoc}
use Rattle.plan.specs.Numbers.{variables, Within}
use Rattle.plan.specs.Parts.{Given, Lent, link_start}
use Rattle.plan.specs.Rows.{digit, digits, link, chain, values}
use Rattle.plan.specs.declared.numbers.Plan.{Plan}
use Rattle.plan.proofs.Bounds.{prime-low}
use Rattle.plan.proofs.Digits.{digit-residue}

pub chain_length : (G : Given) (i k : ℕ) → length (chain G i k) ≡ G.numbers.n + k
unfolding chain
chain_length G i zero = tab-length G.numbers.n (digit G.radices i) ∙ sym (add-zero G.numbers.n)
chain_length G i (suc k) =
    length-append (chain G i k) (link G.numbers G.weights G.tables (chain G i k) k ∷ []) ∙ omega (arith, chain_length G i k)

module _ (G : Given) (i : ℕ) (within : Within G.numbers) (lent : Lent G) where
  positive : 0 < G.numbers.p
  positive = omega (arith, prime-low within)

  link-residue : (xs : List ℕ) (k : ℕ) → link G.numbers G.weights G.tables xs k < G.numbers.p
  unfolding link
  link-residue xs k =
      let P = G.numbers in
      lent.tables-residues (k * P.p + sum (λ j. at G.weights (link_start P k + j) * at xs j) (P.n + k) % P.p)

  pub chain-residues : (k : ℕ) → Residues G.numbers.p (chain G i k)
  unfolding chain
  chain-residues zero =
      residues-tab G.numbers.p G.numbers.n (digit G.radices i) positive
      (λ j l. digit-residue G.numbers G.radices i j lent.radices l)
  chain-residues (suc k) =
      residues-snoc G.numbers.p (chain G i k) (link G.numbers G.weights G.tables (chain G i k) k) positive
      (link-residue (chain G i k) k) (chain-residues k)

  pub values-residues : Residues G.numbers.p (values G i)
  unfolding values
  values-residues = chain-residues G.numbers.m

pub values_length : (G : Given) (i : ℕ) → length (values G i) ≡ variables G.numbers
unfolding values
values_length G i = chain_length G i G.numbers.m

-- link k's weights and table lie within their parts
pub link-room : (P : Plan) (w : List ℕ) (begin k : ℕ) → length w ≡ link_start P P.m → begin ≡ link_start P k → k < P.m → begin + (P.n + k) ≤ length w
link-room P w begin k hw hbegin h =
    omega (arith, sum_mono (λ i. P.n + i) h, sum-suc (λ i. P.n + i) k)

pub table-room : (P : Plan) (T : List ℕ) (k : ℕ) → length T ≡ P.m * P.p → k < P.m → k * P.p + P.p ≤ length T
table-room P T k hT h = omega (arith, mul-le-mul_right P.p h)

-- in the form in which the call of `link` leaves it
pub link-of-parts : (P : Plan) (w T xs : List ℕ) (begin k : ℕ) → begin ≡ link_start P k → begin + (P.n + k) ≤ length w → 0 < P.p
    → at (take (k * P.p + P.p - k * P.p) (drop (k * P.p) T))
    (dot (take (begin + (P.n + k) - begin) (drop begin w)) xs (length (take (begin + (P.n + k) - begin) (drop begin w))) % P.p)
    ≡ link P w T xs k
unfolding link
link-of-parts P w T xs begin k hbegin room pos =
    rw (cut-length w begin (P.n + k) room, add-sub_cancel_left (k * P.p) P.p, add-sub_cancel_left begin (P.n + k), hbegin)
    (part_at T (k * P.p) P.p (dot part xs (P.n + k) % P.p) (mod-lt _ pos)
    ∙ ap (λ (z : ℕ). at T (k * P.p + z % P.p))
    (sum-ext (λ j. at part j * at xs j) (λ j. at w (link_start P k + j) * at xs j) (P.n + k)
    (λ j l. ap (λ (y : ℕ). y * at xs j) (part_at w (link_start P k) (P.n + k) j l))))
  where
    part : List ℕ
    part = take (P.n + k) (drop (link_start P k) w)

-- the state of a loop over the links: the first n + k places of x are the chain, and link k's weights begin at `begin`
pub record Linked (G : Given) (i k begin : ℕ) (x : List ℕ) : Type 0 where
  pub within : k ≤ G.numbers.m
  pub begins : begin ≡ link_start G.numbers k
  pub size : length x ≡ variables G.numbers
  pub done : take (G.numbers.n + k) x ≡ chain G i k

pub linked-none : (G : Given) (i : ℕ) (xs e : List ℕ) → xs ≡ digits G i → length e ≡ variables G.numbers
    → Linked G i 0 0 (xs ++ drop G.numbers.n e)
unfolding chain
linked-none G i xs e hd he =
    let n = G.numbers.n in
    record {
      within = omega arith;
      begins = sym (sum-zero (λ j. n + j));
      size = length-append xs (drop n e) ∙ rw length-drop (omega (arith, count));
      done = ap (λ (j : ℕ). take j (xs ++ drop n e)) (add-zero n) ∙ take_at xs (drop n e) n count ∙ hd;
    }
  where
    count : length xs ≡ G.numbers.n
    count = ap length hd ∙ tab-length G.numbers.n (digit G.radices i)

pub linked-next : {G : Given} {i k begin : ℕ} {x : List ℕ} (v : ℕ) → Linked G i k begin x → k < G.numbers.m
    → v ≡ link G.numbers G.weights G.tables (chain G i k) k
    → Linked G i (k + 1) (begin + (G.numbers.n + k)) (set x (G.numbers.n + k) v)
unfolding chain
linked-next {G} {i} {k} {begin} {x} v l h hv =
    let n = G.numbers.n in
    record {
      within = omega arith;
      begins = ap (λ (a : ℕ). a + (n + k)) l.begins ∙ sym (sum-next (λ j. n + j) k);
      size = length-set x (n + k) v ∙ l.size;
      done =
          ap (λ (j : ℕ). take j (set x (n + k) v)) (ap (λ (j : ℕ). n + j) (add-one k) ∙ add-suc n k)
          ∙ take-suc-set x (n + k) v (omega arith)
          ∙ ap₂ (λ (a : List ℕ) (b : ℕ). a ++ (b ∷ [])) l.done hv
          ∙ ap (chain G i) (sym (add-one k));
    }

pub linked-all : {G : Given} {i k begin : ℕ} {x : List ℕ} → Linked G i k begin x → G.numbers.m ≤ k → x ≡ values G i
unfolding values
linked-all {G} {i} {k} {begin} {x} l h =
    let e : k ≡ G.numbers.m = omega arith in
    sym (take_all (G.numbers.n + k) x (omega arith)) ∙ l.done ∙ ap (chain G i) e
