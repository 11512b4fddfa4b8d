-- `text::ending::print_text` meets its contract: buffers of its own, where there is room for the output. Assumes nothing.
use Rattle.std.proofs.Common.{rules}
use borrow.Author.Tests.{lt-ltb, le-ltb}
use Rattle.text.specs.Meaning.{printed, printed_length}
use Rattle.text.proofs.ending.print_text.Goals as goal

pub returns-then-out-lt-OUTPUT-clause-out_after : goal.returns-then-out-lt-OUTPUT-clause-out_after
unfolding printed
returns-then-out-lt-OUTPUT-clause-out_after c = rw (lt-ltb _ 131072 c.if-out-lt-OUTPUT.true)

pub returns-then-out-lt-OUTPUT-clause-value : goal.returns-then-out-lt-OUTPUT-clause-value
unfolding printed_length
returns-then-out-lt-OUTPUT-clause-value c = rw (lt-ltb _ 131072 c.if-out-lt-OUTPUT.true)

pub returns-clause-out_after : goal.returns-clause-out_after
unfolding printed
returns-clause-out_after c = rw (le-ltb _ 131072 c.if-out-lt-OUTPUT.false) (search (rules, c.print_read.ensures.kept.out))

pub returns-clause-value : goal.returns-clause-value
unfolding printed_length
returns-clause-value c = rw (le-ltb _ 131072 c.if-out-lt-OUTPUT.false) c.print_read.ensures.value
