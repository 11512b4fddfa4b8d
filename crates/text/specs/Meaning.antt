-- 01, "The filing program", and 02, C-11: the meaning of a text, from the bytes of standard input to the bytes of standard output.
-- "Names line, values line"; "after the values line a plan has a line of n radices"; "per link a line of weights, then a line with its table; a
-- d line per product; names line `entry value`, then entries to the end." A text is a fold over its lines with a place: what the next line is to
-- be, with what has been read so far, as the parts of a plan as lent.
--     Place               where a line stands
--     Judged              the judgement of a line: the next place, or the cause of a refusal
--     plan_names, pair_names   the two names lines
--     more_weights G xs, more_tables G xs, more_products G xs   the plan as read so far, with the numbers of one line more
--     after_products G b, after_links G k    the place after b of the products, and after k of the links
--     unless k place      that place, or cause k where k is not 0
--     header_causes P, header_plan ns    the values line: its causes but 13, and the plan that its five numbers ask for
--     radices_causes n p line  the radices line: its causes, of n radices 2 to p
--     line_causes n p line     the causes of a line of n residues modulo p
--     entry_causes G S line, entered G S line    an entry line: its causes, and the store after it
--     judged place line   the judgement of a line: one clause for each kind of line
--     ended place j       what is printed when the text ends before line j: the listing after entries, else 13 for the missing line j
--     from j place pieces      what is printed of the lines from line j on
--     meaning text        the bytes printed
--     printed text out, printed_length text out    a lent slice with the output at its front, and the output's length
use Rattle.std.specs.Prelude.{Bool, cond, not, List, [], ◌∷◌, ◌++◌, ℕ, zero, suc, ◌+◌, ltb, length}
use Rattle.lists.specs.Places.{at, placed, same}
use Rattle.field.specs.Rows.{all_below}
use Rattle.plan.specs.declared.numbers.Plan.{Plan}
use Rattle.plan.specs.Causes.{first}
use Rattle.plan.specs.Numbers.{variables, columns, number_causes, radix_causes, plan}
use Rattle.plan.specs.Parts.{Given, lend}
use Rattle.store.specs.Calls.{empty_store, file_causes, filed, coefficients}
use Rattle.listing.specs.Printed.{listing, refused}
use Rattle.lines.specs.Lines.{cut_at, asks, numbers}

pub data Place : Type 0 where
  names : Place
  header : Place
  radices : Plan → Place
  weights : Given → ℕ → Place
  table : Given → ℕ → Place
  products : Given → ℕ → Place
  entry_names : Given → Place
  entries : Given → List ℕ → Place

pub data Judged : Type 0 where
  next : Place → Judged
  cause : ℕ → Judged

-- `p s n links products` and `entry value`
abbrev pub plan_names : List ℕ
plan_names = 112 ∷ 32 ∷ 115 ∷ 32 ∷ 110 ∷ 32 ∷ 108 ∷ 105 ∷ 110 ∷ 107 ∷ 115 ∷ 32 ∷ 112 ∷ 114 ∷ 111 ∷ 100 ∷ 117 ∷ 99 ∷ 116 ∷ 115 ∷ []

abbrev pub pair_names : List ℕ
pair_names = 101 ∷ 110 ∷ 116 ∷ 114 ∷ 121 ∷ 32 ∷ 118 ∷ 97 ∷ 108 ∷ 117 ∷ 101 ∷ []

-- what has been read of a part grows at its end
abbrev pub more_weights : Given → List ℕ → Given
more_weights G xs = lend G.numbers G.radices (G.weights ++ xs) G.tables G.products

abbrev pub more_tables : Given → List ℕ → Given
more_tables G xs = lend G.numbers G.radices G.weights (G.tables ++ xs) G.products

abbrev pub more_products : Given → List ℕ → Given
more_products G xs = lend G.numbers G.radices G.weights G.tables (G.products ++ xs)

-- the place after b of the products, and after k of the links
abbrev pub after_products : Given → ℕ → Place
after_products G b = cond (ltb b G.numbers.t) (products G b) (entry_names G)

abbrev pub after_links : Given → ℕ → Place
after_links G k = cond (ltb k G.numbers.m) (weights G k) (after_products G 0)

-- the next place where the refusal is 0
abbrev pub unless : ℕ → Place → Judged
unless zero place = next place
unless (suc k) place = cause (suc k)

-- "In text the values line is tested whole before the radices line is read": causes 1 to 3 without radices, then 14, for
-- which 02, C-16, says: "The filing program then takes C up to 360 (65,340 bytes), and cause 14 changes to that"
abbrev pub header_causes : Plan → List (ℕ × Bool)
header_causes P = number_causes P.p P.s P.n P.m P.t [] ++ ((14, ltb 360 (columns P)) ∷ [])

abbrev pub header_plan : List ℕ → Plan
header_plan ns = plan (at ns 0) (at ns 1) (at ns 2) (at ns 3) (at ns 4)

-- a line of n radices: 13, then 2 over the whole line, then 3
abbrev pub radices_causes : ℕ → ℕ → List ℕ → List (ℕ × Bool)
radices_causes n p bytes = (13, not (asks 5 n bytes)) ∷ radix_causes p (numbers bytes)

-- a line of n residues modulo p: 13, then 5
abbrev pub line_causes : ℕ → ℕ → List ℕ → List (ℕ × Bool)
line_causes n p bytes = (13, not (asks 5 n bytes)) ∷ (5, not (all_below p (numbers bytes))) ∷ []

-- an entry line: 13, then the causes of filing it; and the store with the entry filed
abbrev pub entry_causes : Given → List ℕ → List ℕ → List (ℕ × Bool)
entry_causes G S bytes = (13, not (asks 5 2 bytes)) ∷ file_causes G S (at (numbers bytes) 0) (at (numbers bytes) 1)

abbrev pub entered : Given → List ℕ → List ℕ → List ℕ
entered G S bytes = filed G S (at (numbers bytes) 0) (at (numbers bytes) 1)

-- 13 first for its line, then the place's own causes
unfoldable pub judged : Place → List ℕ → Judged
judged names bytes = unless (first ((13, not (same bytes plan_names)) ∷ [])) header
judged header bytes =
    let P = header_plan (numbers bytes) in
    unless (first ((13, not (asks 5 5 bytes)) ∷ header_causes P)) (radices P)
judged (radices P) bytes = unless (first (radices_causes P.n P.p bytes)) (after_links (lend P (numbers bytes) [] [] []) 0)
judged (weights G k) bytes = unless (first (line_causes (G.numbers.n + k) G.numbers.p bytes)) (table (more_weights G (numbers bytes)) k)
judged (table G k) bytes = unless (first (line_causes G.numbers.p G.numbers.p bytes)) (after_links (more_tables G (numbers bytes)) (suc k))
judged (products G b) bytes =
    unless (first (line_causes (variables G.numbers) G.numbers.p bytes)) (after_products (more_products G (numbers bytes)) (suc b))
judged (entry_names G) bytes = unless (first ((13, not (same bytes pair_names)) ∷ [])) (entries G (empty_store G.numbers))
judged (entries G S) bytes = unless (first (entry_causes G S bytes)) (entries G (entered G S bytes))

unfoldable pub ended : Place → ℕ → List ℕ
ended names j = refused 13 j
ended header j = refused 13 j
ended (radices P) j = refused 13 j
ended (weights G k) j = refused 13 j
ended (table G k) j = refused 13 j
ended (products G b) j = refused 13 j
ended (entry_names G) j = refused 13 j
ended (entries G S) j = listing G.numbers G.weights G.products (coefficients (columns G.numbers) S)

-- the lines from line j on: each piece but the last is a whole line; the last is what follows the last LF, a line without its LF unless empty
unfoldable pub from : ℕ → Place → List (List ℕ) → List ℕ
from j place [] = ended place j
from j place (bytes ∷ []) = elim bytes [ [] ↦ ended place j | ◌∷◌ x xs ↦ refused 13 j ]
from j place (bytes ∷ (more ∷ pieces)) = elim (judged place bytes) [ next after ↦ from (suc j) after (more ∷ pieces) | cause k ↦ refused k j ]

unfoldable pub meaning : List ℕ → List ℕ
meaning text = from 1 names (cut_at 10 text)

-- A whole text printed into a lent slice. 131,072 bytes are enough for every text; a slice with less stays as it is, and 0 is answered.
unfoldable pub printed : List ℕ → List ℕ → List ℕ
printed text out = cond (ltb (length out) 131072) out (placed out 0 (meaning text))

unfoldable pub printed_length : List ℕ → List ℕ → ℕ
printed_length text out = cond (ltb (length out) 131072) 0 (length (meaning text))
