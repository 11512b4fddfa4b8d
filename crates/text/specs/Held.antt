-- Serves 01, "The filing program": the code's state and its buffers, as the state of the definition. The contracts of the calls on a text cite it.
--     place_in stage B        the place of a stage, over the bytes of the buffers B
--     judged_in a B           of what judging a line answers, the place, or the cause of the refusal
--     stated j held o         the definition's state after the judgement o: line j with the bytes held of it, or stopped there
--     state_over state line R w T d S, state_of state B      the definition's state, over the bytes of the line and the buffers
--     place_at stage V, judged_at a V, state_at state V      the same, over buffers that are lent to be read
--     Kept B B'               the buffers B' are the same slices as B, and as long
--     KeptRoom M M'           the same of what a listing is made in
use Rattle.std.specs.Prelude.{◌≡◌, List, ℕ, length, take, Result}
use Rattle.plan.specs.declared.refusal.Refusal.{Refusal}
use Rattle.text.specs.Meaning.{Place, Judged, next, cause}
use Rattle.text.specs.Streaming as streaming
use Rattle.text.specs.Progress.{place_of, judged_of}
use Rattle.text.specs.declared.buffers.Buffers.{Buffers}
use Rattle.text.specs.declared.buffers.Room.{Room}
use Rattle.text.specs.declared.buffers.SharedBuffers.{SharedBuffers}
use Rattle.text.specs.declared.stages.Stage.{Stage}
use Rattle.text.specs.declared.state.State.{State}

abbrev pub place_in : Stage → Buffers → Place
place_in stage B = place_of stage B.radices.now B.weights.now B.tables.now B.products.now B.store.now

abbrev pub judged_in : Result Stage Refusal → Buffers → Judged
judged_in a B = judged_of a B.radices.now B.weights.now B.tables.now B.products.now B.store.now

-- the state with its line number and the bytes held
abbrev pub stated : ℕ → List ℕ → Judged → streaming.State
stated j held (next place) = streaming.reading j held place
stated j held (cause k) = streaming.stopped k j

abbrev pub state_over : State → List ℕ → List ℕ → List ℕ → List ℕ → List ℕ → List ℕ → streaming.State
state_over state line R w T d S = stated state.line (take state.held line) (judged_of state.stage R w T d S)

abbrev pub state_of : State → Buffers → streaming.State
state_of state B = state_over state B.line.now B.radices.now B.weights.now B.tables.now B.products.now B.store.now

abbrev pub place_at : Stage → SharedBuffers → Place
place_at stage V = place_of stage V.radices.now V.weights.now V.tables.now V.products.now V.store.now

abbrev pub judged_at : Result Stage Refusal → SharedBuffers → Judged
judged_at a V = judged_of a V.radices.now V.weights.now V.tables.now V.products.now V.store.now

abbrev pub state_at : State → SharedBuffers → streaming.State
state_at state V = state_over state V.line.now V.radices.now V.weights.now V.tables.now V.products.now V.store.now

pub record Kept (B B' : Buffers) : Type 0 where
  pub line : B'.line.ghost_name ≡ B.line.ghost_name
  pub radices : B'.radices.ghost_name ≡ B.radices.ghost_name
  pub weights : B'.weights.ghost_name ≡ B.weights.ghost_name
  pub tables : B'.tables.ghost_name ≡ B.tables.ghost_name
  pub products : B'.products.ghost_name ≡ B.products.ghost_name
  pub store : B'.store.ghost_name ≡ B.store.ghost_name
  pub line-length : length B'.line.now ≡ length B.line.now
  pub radices-length : length B'.radices.now ≡ length B.radices.now
  pub weights-length : length B'.weights.now ≡ length B.weights.now
  pub tables-length : length B'.tables.now ≡ length B.tables.now
  pub products-length : length B'.products.now ≡ length B.products.now
  pub store-length : length B'.store.now ≡ length B.store.now

pub record KeptRoom (M M' : Room) : Type 0 where
  pub steps : M'.steps.ghost_name ≡ M.steps.ghost_name
  pub out : M'.out.ghost_name ≡ M.out.ghost_name
  pub steps-length : length M'.steps.now ≡ length M.steps.now
  pub out-length : length M'.out.now ≡ length M.out.now
