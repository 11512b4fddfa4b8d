-- 02, C-15, "Reading a listing back", for a text, "which is lent whole": "The three figures in a listing's second line must be right as well.
-- They may have 7 digits; step lines run to the end of the text." First 13 over all lines, each as its place asks; then 15, "when no coefficients
-- make the writer give exactly this, figures included", "with line 1". The theorem `listing-exactly` (proofs/ListingsBack) says that the call
-- accepts exactly when some coefficients have the text as their listing. Stands on `Recovery`, on `lines` for lines of numbers and on `listing`.
--     line_fits j bytes           line j of a listing is as its place asks, as a test: names, figures, names, then four numbers each
--     bad_line j pieces           the first of the lines from line j on that is malformed or missing; 0 where none is
--     step_numbers pieces         the numbers of lines of steps, one line after the other
--     malformed text              the first malformed or missing line of a text; 0 where none is
--     steps_in text               the numbers of its step lines, which begin with line 4
--     is_listing P w d text       the text is the listing of the coefficients that stand in its steps, as a test
--     text_causes P w d text      the causes of a text under a checked plan, 13 and 15
--     listing_own text G          the same of a plan as lent; `listing_causes G text β`: all that the call can meet, 1 2 3 4 5 13 15
--     line_of k text              the line that goes with refusal k: the malformed one with 13, line 1 with 15, and none with another
--     refused r, refused_at r j   what the call returns where it refuses: without a line, and with line j
--     answer_of a                 what the answer is: it gives, or refuses with 01's number; and the line that goes with it, where one does (`line_with`)
--     text_answer P w d text      the answer for a checked plan; `listing_answer G text β`: what `read_listing` answers
--     text_left P w d text β      what is left in β for a checked plan; `listing_left G text β`: what `read_listing` leaves there
--     Listed G text β             β is a list of C residues whose listing is the text
use Rattle.std.specs.Prelude.{◌≡◌, Bool, cond, not, ◌&&◌, List, [], ◌∷◌, ◌++◌, ℕ, suc, eqb, ltb, length, drop, Option, Some, None, Result, Ok, Err, ⊤}
use Rattle.lists.specs.Places.{same}
use Rattle.field.specs.Residues.{Residues}
use Rattle.field.specs.Rows.{all_below}
use Rattle.plan.specs.declared.numbers.Plan.{Plan}
use Rattle.plan.specs.declared.admission.Own.TheVariants.{Row}
use Rattle.plan.specs.Causes.{first, leaves, Answer, gives, refuses, answer, number}
use Rattle.plan.specs.Numbers.{columns}
use Rattle.plan.specs.Parts.{Given, call_causes}
use Rattle.lines.specs.Lines.{cut_at, asks, numbers}
use Rattle.listing.specs.Printed.{figure_names, step_names, listing}
use Rattle.readback.specs.Recovery.{recovered}
use Rattle.plan.specs.declared.refusal.Refusal.{Refusal}
use Rattle.readback.specs.declared.unread.Unread.{Unread}

-- a names line is compared with its LF, as `listing` has it
unfoldable pub line_fits : ℕ → List ℕ → Bool
line_fits j bytes =
    cond (eqb j 1) (same (bytes ++ (10 ∷ [])) figure_names)
    (cond (eqb j 2) (asks 7 3 bytes)
    (cond (eqb j 3) (same (bytes ++ (10 ∷ [])) step_names)
    (asks 5 4 bytes)))

-- each piece but the last is a whole line; the last is what follows the last LF, a line without its LF unless empty
unfoldable pub bad_line : ℕ → List (List ℕ) → ℕ
bad_line j [] = j
bad_line j (bytes ∷ []) = cond (ltb 3 j && eqb (length bytes) 0) 0 j
bad_line j (bytes ∷ (more ∷ pieces)) =
    let later = bad_line (suc j) (more ∷ pieces) in
    cond (line_fits j bytes) later j

unfoldable pub step_numbers : List (List ℕ) → List ℕ
step_numbers [] = []
step_numbers (bytes ∷ []) = []
step_numbers (bytes ∷ (more ∷ pieces)) = numbers bytes ++ step_numbers (more ∷ pieces)

unfoldable pub malformed : List ℕ → ℕ
malformed text = bad_line 1 (cut_at 10 text)

unfoldable pub steps_in : List ℕ → List ℕ
steps_in text = step_numbers (drop 3 (cut_at 10 text))

unfoldable pub is_listing : Plan → List ℕ → List ℕ → List ℕ → Bool
is_listing P w d text =
    let β = recovered P (steps_in text) in
    all_below P.p β && same text (listing P w d β)

abbrev pub text_causes : Plan → List ℕ → List ℕ → List ℕ → List (ℕ × Bool)
text_causes P w d text = (13, not (eqb (malformed text) 0)) ∷ (15, not (is_listing P w d text)) ∷ []

abbrev pub listing_own : List ℕ → Given → List (ℕ × Bool)
listing_own text G = text_causes G.numbers G.weights G.products text

abbrev pub listing_causes : Given → List ℕ → List ℕ → List (ℕ × Bool)
listing_causes G text β = call_causes G (Row (length β)) (listing_own text)

abbrev pub line_of : ℕ → List ℕ → List ℕ
line_of k text = cond (eqb k 13) (malformed text ∷ []) (cond (eqb k 15) (1 ∷ []) [])

abbrev pub refused : Refusal → Result ⊤ Unread
refused r = Err (record { refusal = r; line = None })

abbrev pub refused_at : Refusal → ℕ → Result ⊤ Unread
refused_at r j = Err (record { refusal = r; line = Some j })

abbrev pub line_with : Option ℕ → List ℕ
line_with None = []
line_with (Some j) = j ∷ []

-- no value comes with a listing that is read: what is read goes into β
abbrev pub answer_of : Result ⊤ Unread → Answer × List ℕ
answer_of (Ok u) = (gives [], [])
answer_of (Err unread) = (refuses (number unread.refusal), line_with unread.line)

abbrev pub text_answer : Plan → List ℕ → List ℕ → List ℕ → Answer × List ℕ
text_answer P w d text =
    let k = first (text_causes P w d text) in
    (answer k [], line_of k text)

abbrev pub text_left : Plan → List ℕ → List ℕ → List ℕ → List ℕ → List ℕ
text_left P w d text β = leaves (first (text_causes P w d text)) (recovered P (steps_in text)) β

-- the call as a whole
abbrev pub listing_answer : Given → List ℕ → List ℕ → Answer × List ℕ
listing_answer G text β =
    let k = first (listing_causes G text β) in
    (answer k [], line_of k text)

abbrev pub listing_left : Given → List ℕ → List ℕ → List ℕ
listing_left G text β = leaves (first (listing_causes G text β)) (recovered G.numbers (steps_in text)) β

pub record Listed (G : Given) (text β : List ℕ) : Type 0 where
  pub places : length β ≡ columns G.numbers
  pub residues : Residues G.numbers.p β
  pub printed : listing G.numbers G.weights G.products β ≡ text
