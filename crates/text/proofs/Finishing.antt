-- The end of a text, from the code's state.
--     finish-stopped, finish-broken, finish-early, finish-filed      what is printed, by the stage and the bytes held
--     entries-fit, filed-sound         at the entries, the parts and the store are as the listing needs them
--     read_back, read-part, read-residues      the coefficients in a local array
--     sound-state, prints-meaning      what `finish` asks for and prints, after all bytes of a text
-- Assumes nothing.
use mathlib.Core.Path.{◌≡◌, refl, sym, ap, subst, ◌∙◌}
use mathlib.Core.List.{List, [], ◌∷◌, ◌++◌}
use Prim.Native.Nat.{ℕ, ◌≤◌, ◌<◌}
use native.Mathlib.Nat.{pos_of_ne-zero}
use native.Mathlib.Omega.{arith}
use lib.ListN.{length, take}
use lib.Seq.{take_at, length-take-le}
use Rattle.std.specs.Prelude.{Result, Ok, Err, IfOk}
use Rattle.lists.proofs.Tabs.{tab-length}
use Rattle.field.specs.Residues.{Residues}
use Rattle.plan.specs.declared.numbers.Plan.{Plan}
use Rattle.plan.specs.Numbers.{columns, Within}
use Rattle.plan.specs.Causes.{number}
use Rattle.plan.specs.Parts.{store_size, Lent}
use Rattle.plan.specs.declared.refusal.Refusal.{Refusal}
use Rattle.plan.proofs.Bounds.{prime-low}
use Rattle.store.specs.Stages.{Ready}
use Rattle.store.specs.Elimination.{read_off, cells}
use Rattle.store.specs.Calls.{coefficients}
use Rattle.store.proofs.ReadingOff.{solution-residues}
use Rattle.listing.specs.Printed.{listing, refused}
use Rattle.text.specs.Meaning.{ended, meaning}
use Rattle.text.specs.Streaming.{State, reading, start, pushes, finish}
use Rattle.text.specs.Progress.{read_of, FilledTo, Fits}
use Rattle.text.specs.Held.{judged_at, place_at, stated, state_of, state_at}
use Rattle.text.specs.Sound.{Sound, SoundState}
use Rattle.text.specs.declared.buffers.Buffers.{Buffers}
use Rattle.text.specs.declared.buffers.SharedBuffers.{SharedBuffers}
use Rattle.text.specs.declared.stages.Filled.{Filled}
use Rattle.text.specs.declared.stages.Stage.{Stage}
use Rattle.text.specs.declared.stages.Stage.TheVariants.{Names, Header, Radices, Weights, Table, Product, EntryNames, Entries}
use Rattle.text.specs.declared.state.State as code
use Rattle.text.proofs.Streaming.{streamed}
use Rattle.text.proofs.Soundness.{sound-pushes, lent}

module _ (state : code.State) (V : SharedBuffers) where
  pub finish-stopped : (r : Refusal) (k : ℕ) → state.stage ≡ Err r → k ≡ number r → refused k state.line ≡ finish (state_at state V)
  unfolding finish
  finish-stopped r k e n = ap (λ (j : ℕ). refused j state.line) n ∙ sym (ap (λ (a : Result Stage Refusal). finish (stated state.line (take state.held V.line.now) (judged_at a V))) e)

  pub finish-broken : (stage : Stage) (k : ℕ) → state.stage ≡ Ok stage → (state.held ≡ 0 → ⊥) → k ≡ 13 → refused k state.line ≡ finish (state_at state V)
  unfolding finish
  finish-broken stage k e n is =
      let inside : state.held ≤ length V.line.now = omega (arith, state.held_bound, V.line_room) in
      ap (λ (j : ℕ). refused j state.line) is
      ∙ by (take state.held V.line.now) (rw (length-take-le state.held V.line.now inside) (pos_of_ne-zero n))
      ∙ sym (ap (λ (a : Result Stage Refusal). finish (stated state.line (take state.held V.line.now) (judged_at a V))) e)
    where
      by : (held : List ℕ) → 0 < length held → refused 13 state.line ≡ finish (reading state.line held (place_at stage V))
      by [] l = absurd (omega arith)
      by (x ∷ xs) l = refl

  module _ (stage : Stage) (e : state.stage ≡ Ok stage) (none : state.held ≡ 0) where
    ends : finish (state_at state V) ≡ ended (place_at stage V) state.line
    unfolding finish
    ends =
        ap (λ (a : Result Stage Refusal). finish (stated state.line (take state.held V.line.now) (judged_at a V))) e
        ∙ ap (λ (n : ℕ). finish (reading state.line (take n V.line.now) (place_at stage V))) none

    pub finish-early : (k : ℕ) → ((Q : Filled) → stage ≡ Entries Q → ⊥) → k ≡ 13 → refused k state.line ≡ finish (state_at state V)
    unfolding ended
    finish-early k g is = ap (λ (j : ℕ). refused j state.line) is ∙ by stage g ∙ sym ends
      where
        by : (s : Stage) → ((Q : Filled) → s ≡ Entries Q → ⊥) → refused 13 state.line ≡ ended (place_at s V) state.line
        by Names g = refl
        by Header g = refl
        by (Radices P) g = refl
        by (Weights Q k) g = refl
        by (Table Q k) g = refl
        by (Product Q j) g = refl
        by (EntryNames Q) g = refl
        by (Entries Q) g = absurd (g Q refl)

    pub finish-filed : (Q : Filled) (size : ℕ) → stage ≡ Entries Q → size ≡ store_size (columns Q.plan)
        → listing Q.plan (take Q.weights V.weights.now) (take Q.products V.products.now) (coefficients (columns Q.plan) (take size V.store.now)) ≡ finish (state_at state V)
    unfolding ended
    finish-filed Q size h s =
        ap (λ (n : ℕ). listing Q.plan (take Q.weights V.weights.now) (take Q.products V.products.now) (coefficients (columns Q.plan) (take n V.store.now))) s
        ∙ sym (ap (λ (g : Stage). ended (place_at g V) state.line) h)
        ∙ sym ends

  -- at the entries, what is filled lies within its buffer
  pub entries-fit : (stage : Stage) (Q : Filled) → state.stage ≡ Ok stage → stage ≡ Entries Q → FilledTo Q 4096 16384 2048
  entries-fit stage Q e h = subst Fits h (subst (λ (a : Result Stage Refusal). IfOk a Fits) e state.fits)

  -- and it is as the listing needs it
  pub filed-sound : (stage : Stage) (Q : Filled) (size : ℕ) → state.stage ≡ Ok stage → stage ≡ Entries Q → size ≡ store_size (columns Q.plan)
      → SoundState (state_at state V)
      → Lent (read_of Q V.radices.now V.weights.now V.tables.now V.products.now) × Ready Q.plan.p (columns Q.plan) (take size V.store.now)
  unfolding Sound SoundState
  filed-sound stage Q size e h z s =
      let at-stage = subst (λ (a : Result Stage Refusal). SoundState (stated state.line (take state.held V.line.now) (judged_at a V))) e s in
      let at-entries = subst (λ (g : Stage). Sound (place_at g V)) h at-stage in (
        lent (read_of Q V.radices.now V.weights.now V.tables.now V.products.now) at-entries.0,
        subst (λ (n : ℕ). Ready Q.plan.p (columns Q.plan) (take n V.store.now)) (sym z) at-entries.1,
      )

-- coefficients read off into the front of an array
module _ (P : Plan) (store out rest : List ℕ) (n : ℕ) (sized : n ≡ columns P) (read : out ≡ coefficients n store) where
  read_length : length out ≡ n
  unfolding coefficients
  read_length = ap length read ∙ tab-length n (read_off n (cells n store))

  pub read_back : take n (out ++ rest) ≡ coefficients (columns P) store
  read_back = take_at out rest n read_length ∙ read ∙ ap (λ (k : ℕ). coefficients k store) sized

  pub read-part : n ≡ length (take n (out ++ rest))
  read-part = sym (ap length (take_at out rest n read_length) ∙ read_length)

  pub read-residues : Within P → Ready P.p (columns P) store → (length (take n (out ++ rest)) ≡ columns P) × Residues P.p (take n (out ++ rest))
  unfolding coefficients
  read-residues within ready = (
    sym read-part ∙ sized,
    subst (Residues P.p) (sym read_back) (solution-residues P.p (columns P) (cells (columns P) store) ready.reduced (omega (arith, prime-low within))),
  )

-- all bytes of a text, from the start
module _ (first last : code.State) (text : List ℕ) (B B' : Buffers) (begins : state_of first B ≡ start) (read : state_of last B' ≡ pushes (state_of first B) text) where
  all_read : state_of last B' ≡ pushes start text
  all_read = read ∙ ap (λ (s : State). pushes s text) begins

  pub sound-state : SoundState (state_of last B')
  unfolding SoundState Sound
  sound-state = subst SoundState (sym all_read) (sound-pushes start text tt)

  pub prints-meaning : finish (state_of last B') ≡ meaning text
  prints-meaning = ap finish all_read ∙ streamed text
