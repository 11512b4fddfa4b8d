-- `text::ending::print_read` meets its contract: the bytes of the text pushed from the start, and its end. Assumes nothing.
use Rattle.std.proofs.Common.{sym}
use Rattle.text.proofs.Finishing.{sound-state, prints-meaning}
use Rattle.text.proofs.ending.print_read.Goals as goal

pub finish-requires : goal.finish-requires
finish-requires c =
    let B = c.args.buffers.now in
    record {
      sound_state = rw (c.share.ensures c.feed-last.result)
          (sound-state c.start.result c.feed-last.result c.args.text.now B c.feed-last.new.buffers (c.start.ensures.started _ _ _ _ _ _) c.feed-last.ensures.pushed);
    }

pub returns-clause-out_after : goal.returns-clause-out_after
returns-clause-out_after c =
    let B = c.args.buffers.now in
    let means = prints-meaning c.start.result c.feed-last.result c.args.text.now B c.feed-last.new.buffers (c.start.ensures.started _ _ _ _ _ _) c.feed-last.ensures.pushed in
    rw (sym means, sym (c.share.ensures c.feed-last.result)) c.finish.ensures.out_after

pub returns-clause-value : goal.returns-clause-value
returns-clause-value c =
    let B = c.args.buffers.now in
    let means = prints-meaning c.start.result c.feed-last.result c.args.text.now B c.feed-last.new.buffers (c.start.ensures.started _ _ _ _ _ _) c.feed-last.ensures.pushed in
    rw (sym means, sym (c.share.ensures c.feed-last.result)) c.finish.ensures.value
