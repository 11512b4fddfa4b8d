-- Reading an input in chunks, and what is printed of it.
--     Reading              what holds before each chunk
--     fed-none, fed-more   what was fed: before the first read, and after one more
--     fed-sound            what was read is what its plan asks for
--     meant-of             what is printed of it is its meaning
--     printed-ended, printed-stopped       what was printed where the end of the input was reached, and where not
--     known                where the end was reached, what the reader had is what it gave, and its meaning is what was written
-- Assumes nothing.
use Rattle.std.proofs.Common.{◌≡◌, refl, sym, ap, ◌∙◌, List, [], ◌++◌, ℕ, ◌+◌, ◌≤◌, length, length-append, Option, None, Some, Result, Ok, Err, OnOk, subst, arith}
use Rattle.std.specs.Prelude.{⊤}
use Rattle.std.specs.Result.{MatchResult, IsErrAnd}
use Rattle.std.specs.Io.KnownBytes.{Consumes, Appends, IsAtEnd}
use Rattle.std.proofs.KnownBytes.{Consumes-nil, Consumes-trans, Consumes-whole, Keeps-refl}
use Rattle.text.specs.Streaming.{State, start, pushes, finish}
use Rattle.text.specs.declared.state.State as code
use Rattle.text.proofs.Streaming.{pushes-append, streamed}
use Rattle.text.specs.Meaning.{meaning}
use Rattle.text.specs.Sound.{Sound, SoundState}
use Rattle.text.proofs.Soundness.{sound-pushes}
use Rattle.lists.specs.Places.{placed}
use Rattle.std.specs.declared.io.Error.{Error}
use Rattle.filing.specs.declared.Stop.{Stop}
use Rattle.filing.specs.declared.Failure.{Failure}
use Rattle.filing.specs.declared.Failure.TheVariants.{Input, Output}
use Rattle.filing.specs.Input.{Fed, Ended, output, Shown, Printed, WritesMeaning}

pub record Reading (before rest : Option (List ℕ)) (state : code.State) (meant : State) (count : ℕ) : Type 0 where
  pub number : state.line ≤ count + 1
  pub fed : Fed before rest meant count

pub fed-none : (before : Option (List ℕ)) (meant : State) → meant ≡ start → Fed before before meant 0
unfolding pushes
fed-none before meant e = record { text = []; counted = refl; taken = Consumes-nil before; pushed = e }

module _ {before rest : Option (List ℕ)} {meant : State} {count : ℕ} (fed : Fed before rest meant count) where
  pub fed-more : {after : Option (List ℕ)} (part : List ℕ) (n : ℕ) (next : State) → n ≡ length part → Consumes rest after part → next ≡ pushes meant part
      → Fed before after next (count + n)
  fed-more {after = after} part n next m u e =
      record {
        text = fed.text ++ part;
        counted = length-append fed.text part ∙ omega (arith, fed.counted, m);
        taken = Consumes-trans before rest after fed.text part fed.taken u;
        pushed = e ∙ ap (λ (s : State). pushes s part) fed.pushed ∙ sym (pushes-append start fed.text part);
      }

  pub fed-sound : SoundState meant
  unfolding Sound SoundState
  fed-sound = subst SoundState (sym fed.pushed) (sound-pushes start fed.text tt)

  meant-of : finish meant ≡ meaning fed.text
  meant-of = ap finish fed.pushed ∙ streamed fed.text

  -- as many bytes as were counted
  ended-after : (read : Result ⊤ Stop) → Ended rest read count → Ended rest read (length fed.text)
  ended-after read = subst (Ended rest read) (sym fed.counted)

  printed-end : {held holds : Option (List ℕ)} {out out' : List ℕ} (u : ⊤) → IsAtEnd rest → out' ≡ placed out 0 (finish meant) → Appends held holds (finish meant)
      → Printed before rest held holds (Ok u) out out'
  unfolding output Shown
  printed-end {held = held} {holds = holds} {out = out} u ended p w =
      record {
        text = fed.text;
        taken = fed.taken;
        ended = ended;
        printed = p ∙ ap (placed out 0) meant-of;
        shown = subst (Appends held holds) meant-of w;
      }

  printed-unwritten : {held holds : Option (List ℕ)} {out out' : List ℕ} (e : Error) → IsAtEnd rest → out' ≡ placed out 0 (finish meant)
      → Printed before rest held holds (Err (Output e)) out out'
  unfolding output Shown
  printed-unwritten {out = out} e ended p =
      record { text = fed.text; taken = fed.taken; ended = ended; printed = p ∙ ap (placed out 0) meant-of; shown = tt }

  pub printed-ended : {held holds : Option (List ℕ)} {out out' : List ℕ} {read : Result ⊤ Stop} {u : ⊤} → read ≡ Ok u → Ended rest read count
      → out' ≡ placed out 0 (finish meant) → (written : Result ⊤ Error) → OnOk written (Appends held holds (finish meant)) → (result : Result ⊤ Failure)
      → MatchResult written (λ u. result ≡ Ok u) (λ e. IsErrAnd result (λ f. f ≡ Output e)) → Printed before rest held holds result out out'
  printed-ended {held = held} {holds = holds} {out = out} {out' = out'} r ended p (Ok u) w result c =
      subst (λ (l : Result ⊤ Failure). Printed before rest held holds l out out') (sym c) (printed-end u (subst (λ (l : Result ⊤ Stop). Ended rest l count) r ended) p w)
  printed-ended r ended p (Err e) w (Ok u) c = absurd c
  printed-ended {held = held} {holds = holds} {out = out} {out' = out'} r ended p (Err e) w (Err f) c =
      subst (λ (l : Failure). Printed before rest held holds (Err l) out out') (sym c) (printed-unwritten e (subst (λ (l : Result ⊤ Stop). Ended rest l count) r ended) p)

  printed-short : {held : Option (List ℕ)} {out : List ℕ} (stop : Stop) → Ended rest (Err stop) count → Printed before rest held held (Err (Input stop)) out out
  unfolding output Shown
  printed-short {held = held} stop ended =
      record { text = fed.text; taken = fed.taken; ended = ended-after (Err stop) ended; printed = refl; shown = Keeps-refl held }

  pub printed-stopped : {held : Option (List ℕ)} {out : List ℕ} {read : Result ⊤ Stop} {stop : Stop} → read ≡ Err stop → Ended rest read count
      → (result : Result ⊤ Failure) → IsErrAnd result (λ f. f ≡ Input stop) → Printed before rest held held result out out
  printed-stopped r ended (Ok u) c = absurd c
  printed-stopped {held = held} {out = out} {stop = stop} r ended (Err f) c =
      subst (λ (l : Failure). Printed before rest held held (Err l) out out) (sym c) (printed-short stop (subst (λ (l : Result ⊤ Stop). Ended rest l count) r ended))

pub known : (before after : Option (List ℕ)) {held holds : Option (List ℕ)} (result : Result ⊤ Failure) {out out' : List ℕ}
    → Printed before after held holds result out out' → WritesMeaning before result held holds
unfolding Shown WritesMeaning
known None after result p = tt
known (Some xs) after (Err e) p = tt
known (Some xs) after {held = held} {holds = holds} (Ok u) p =
    Consumes-whole (Some xs) after p.text (λ text. Appends held holds (meaning text)) p.taken p.ended p.shown
