-- 01, "The filing program": "Reads standard input, prints the program". What a run has read, and what it then prints. Stands on `text`, which
-- says what a text means. A reader's known bytes are those that it says it will give, a writer's those that it says it holds, each `None` where
-- it does not say, as the standard streams do: that the system delivered the one and took the other no contract can say, and that part stands on
-- the program tests.
--     most                            the number of bytes after which no more is read
--     Fed before after state count    `state` is the definition's state after some text of `count` bytes, and a reader's known bytes
--                                     `before` began with this text, which left `after`
--     Ended rest read count           reading ended at the end, where no known byte is left; where a read failed; or after `most` bytes
--     Reads before after state read   both, of one count
--     output result text out          the buffer `out` after the run: only where the end was reached the meaning of the text stands there
--     Shown result held holds text    a writer's known bytes `held` grew to `holds` by the meaning of the text, where the end was reached
--                                     and writing did not fail; where the end was not reached they stayed
--     Printed ..                      all this, of one text
--     WritesMeaning before result held holds     where the reader's bytes are known, the end was reached and writing did not fail, the
--                                     writer's known bytes grew by the meaning of just those bytes
--     reading result                  how reading ended, told by the result of the run: where a write failed the end had been reached
use Rattle.std.specs.Prelude.{◌≡◌, List, ℕ, ◌≤◌, length, Option, None, Some, Result, Ok, Err, ⊤}
use Rattle.std.specs.Io.KnownBytes.{Consumes, IsAtEnd, Keeps, Appends}
use Rattle.lists.specs.Places.{placed}
use Rattle.text.specs.Meaning.{meaning}
use Rattle.text.specs.Streaming.{State, start, pushes}
use Rattle.filing.specs.declared.Stop.{Stop}
use Rattle.filing.specs.declared.Stop.TheVariants.{TooLong, Failed}
use Rattle.filing.specs.declared.Failure.{Failure}
use Rattle.filing.specs.declared.Failure.TheVariants.{Input, Output}

abbrev pub most : ℕ
most = 4611686018427387904

pub record Fed (before after : Option (List ℕ)) (state : State) (count : ℕ) : Type 0 where
  pub text : List ℕ
  pub counted : length text ≡ count
  pub taken : Consumes before after text
  pub pushed : state ≡ pushes start text

abbrev pub Ended : Option (List ℕ) → Result ⊤ Stop → ℕ → Type 0
Ended rest (Ok u) count = IsAtEnd rest
Ended rest (Err TooLong) count = most ≤ count
Ended rest (Err (Failed e)) count = ⊤

pub record Reads (before after : Option (List ℕ)) (state : State) (read : Result ⊤ Stop) : Type 0 where
  pub count : ℕ
  pub fed : Fed before after state count
  pub ended : Ended after read count

abbrev pub reading : Result ⊤ Failure → Result ⊤ Stop
reading (Ok u) = Ok u
reading (Err (Input s)) = Err s
reading (Err (Output e)) = Ok tt

unfoldable pub output : Result ⊤ Failure → List ℕ → List ℕ → List ℕ
output (Ok u) text out = placed out 0 (meaning text)
output (Err (Input s)) text out = out
output (Err (Output e)) text out = placed out 0 (meaning text)

unfoldable pub Shown : Result ⊤ Failure → Option (List ℕ) → Option (List ℕ) → List ℕ → Type 0
Shown (Ok u) held holds text = Appends held holds (meaning text)
Shown (Err (Input s)) held holds text = Keeps held holds
Shown (Err (Output e)) held holds text = ⊤

pub record Printed (before after held holds : Option (List ℕ)) (result : Result ⊤ Failure) (out out' : List ℕ) : Type 0 where
  pub text : List ℕ
  pub taken : Consumes before after text
  pub ended : Ended after (reading result) (length text)
  pub printed : out' ≡ output result text out
  pub shown : Shown result held holds text

unfoldable pub WritesMeaning : Option (List ℕ) → Result ⊤ Failure → Option (List ℕ) → Option (List ℕ) → Type 0
WritesMeaning None result held holds = ⊤
WritesMeaning (Some text) (Ok u) held holds = Appends held holds (meaning text)
WritesMeaning (Some text) (Err e) held holds = ⊤
