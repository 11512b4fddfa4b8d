-- Serves 01, "The filing program": what the code has read so far, as a place of the definition. The contracts of the functions that read a
-- text cite it. The code keeps the stage of the text by value, with how much of each lent buffer is filled; the buffers stand beside it.
--     below_causes n bound k line      the causes of a line of n numbers: 13, then k where one is not below the bound
--     read_of Q R w T d           the plan as far as it is read, over the buffers' bytes
--     place_of stage R w T d S    the place of a stage
--     judged_of a R w T d S       of what judging a line answers, the place, or the cause of the refusal
--     Planned P                   a plan within its limits, with C at most 360
--     FilledTo Q a b c            such a plan, of which so many weights, table values and product weights are read at most
--     Fits stage                  the stage is within its buffers: what is filled leaves room for the lines to come
use Rattle.std.specs.Prelude.{Bool, not, List, [], ◌∷◌, ℕ, ◌+◌, ◌*◌, ◌≤◌, ◌<◌, take, Result, Ok, Err, IfOk}
use denote.Struct.Props.{props}
use Rattle.field.specs.Rows.{all_below}
use Rattle.plan.specs.declared.numbers.Plan.{Plan}
use Rattle.plan.specs.declared.refusal.Refusal.{Refusal}
use Rattle.plan.specs.Causes.{number}
use Rattle.plan.specs.Numbers.{columns, Within}
use Rattle.plan.specs.Parts.{Given, lend, store_size}
use Rattle.lines.specs.Lines.{asks, numbers}
use Rattle.text.specs.Meaning.{Place, names, header, radices, weights, table, products, entry_names, entries, Judged, next, cause}
use Rattle.text.specs.declared.stages.Filled.{Filled}
use Rattle.text.specs.declared.stages.Stage.{Stage}
use Rattle.text.specs.declared.stages.Stage.TheVariants.{Names, Header, Radices, Weights, Table, Product, EntryNames, Entries}

abbrev pub below_causes : ℕ → ℕ → ℕ → List ℕ → List (ℕ × Bool)
below_causes n bound k bytes = (13, not (asks 5 n bytes)) ∷ (k, not (all_below bound (numbers bytes))) ∷ []

-- the first n bytes of R are the radices
abbrev pub read_of : Filled → List ℕ → List ℕ → List ℕ → List ℕ → Given
read_of Q R w T d = lend Q.plan (take Q.plan.n R) (take Q.weights w) (take Q.tables T) (take Q.products d)

abbrev pub place_of : Stage → List ℕ → List ℕ → List ℕ → List ℕ → List ℕ → Place
place_of Names R w T d S = names
place_of Header R w T d S = header
place_of (Radices P) R w T d S = radices P
place_of (Weights Q k) R w T d S = weights (read_of Q R w T d) k
place_of (Table Q k) R w T d S = table (read_of Q R w T d) k
place_of (Product Q j) R w T d S = products (read_of Q R w T d) j
place_of (EntryNames Q) R w T d S = entry_names (read_of Q R w T d)
place_of (Entries Q) R w T d S = entries (read_of Q R w T d) (take (store_size (columns Q.plan)) S)

abbrev pub judged_of : Result Stage Refusal → List ℕ → List ℕ → List ℕ → List ℕ → List ℕ → Judged
judged_of (Ok stage) R w T d S = next (place_of stage R w T d S)
judged_of (Err r) R w T d S = cause (number r)

-- the plan of a text: within its limits, and C at most 360
abbrev pub Planned : Plan → Type 0
Planned P = Within P × (columns P ≤ 360)

pub record FilledTo (Q : Filled) (a b c : ℕ) : Type 0 where
  pub planned : Planned Q.plan
  pub weights : Q.weights ≤ a
  pub tables : Q.tables ≤ b
  pub products : Q.products ≤ c

abbrev pub Fits : Stage → Type 0
Fits Names = Unit {0}
Fits Header = Unit {0}
Fits (Radices P) = Planned P
Fits (Weights Q k) = (k < Q.plan.m) × FilledTo Q (64 * k) (251 * k) 0
Fits (Table Q k) = (k < Q.plan.m) × FilledTo Q (64 * (k + 1)) (251 * k) 0
Fits (Product Q j) = (j < Q.plan.t) × FilledTo Q 4096 16384 (64 * j)
Fits (EntryNames Q) = FilledTo Q 4096 16384 2048
Fits (Entries Q) = FilledTo Q 4096 16384 2048

-- in the form in which the code's state has it, it is a proposition
pub Fits-prop : (answer : Result Stage Refusal) → IsProp (IfOk answer Fits)
Fits-prop (Ok Names) = hlevel props
Fits-prop (Ok Header) = hlevel props
Fits-prop (Ok (Radices P)) = hlevel props
Fits-prop (Ok (Weights Q k)) = hlevel props
Fits-prop (Ok (Table Q k)) = hlevel props
Fits-prop (Ok (Product Q j)) = hlevel props
Fits-prop (Ok (EntryNames Q)) = hlevel props
Fits-prop (Ok (Entries Q)) = hlevel props
Fits-prop (Err r) = hlevel props
