use Rattle.std.proofs.Common.{arith}
use Rattle.text.proofs.Turning.{feeding-next, feeding-all}
use Rattle.text.proofs.turns.feed.Goals as goal

pub loop-x-preserved : goal.loop-x-preserved
loop-x-preserved c =
    let push = c.push-now.ensures in
    feeding-next c.loop-x.invariant _ _ c.loop-x-test.true push.line_after push.kept push.pushed

pub returns : goal.returns
returns c =
    let f = c.loop-x.invariant in record {
      line_after = omega (arith, f.number, f.within);
      kept = f.kept;
      pushed = feeding-all f c.loop-x-test.false;
    }
