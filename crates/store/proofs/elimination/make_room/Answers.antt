-- `store::elimination::make_room` meets its contract. Assumes nothing.
use borrow.Author.Tests.{lt-ltb, le-ltb}
use Rattle.store.proofs.elimination.make_room.Goals as goal

pub returns-then-left-gt0 : goal.returns-then-left-gt0
returns-then-left-gt0 c = let some = lt-ltb 0 _ c.if-left-gt0.true in (rw some, rw some, rw some)

pub returns : goal.returns
returns c =
    let pour = c.pour in
    let none = le-ltb 0 _ c.if-left-gt0.false in
    (rw none, rw none pour.ensures.acc_after, rw none pour.ensures.short_after)
