-- `text::turns::push` meets its contract: an LF judges the line in hand, any other byte is held. Assumes nothing.
use Rattle.std.proofs.Common.{sym, ap, ◌∙◌, take, Result}
use Rattle.plan.specs.declared.refusal.Refusal.{Refusal}
use Rattle.text.specs.Streaming.{turned, push}
use Rattle.text.specs.Held.{judged_in, place_in, stated}
use Rattle.text.specs.declared.stages.Stage.{Stage}
use Rattle.text.proofs.Turning.{push-stopped, push-lf, push-byte, hold-more, hold-full}
use Rattle.text.proofs.turns.push.Goals as goal

pub returns-in_default-clause-pushed : goal.returns-in_default-clause-pushed
returns-in_default-clause-pushed c = push-stopped _ c.args.x _ c.args.state.stage c.args.buffers.now c.in_default.not-Ok

pub returns-then-x-eq10-clause-pushed : goal.returns-then-x-eq10-clause-pushed
returns-then-x-eq10-clause-pushed c =
    let s = c.args.state in
    let B = c.args.buffers.now in
    let held = take s.held B.line.now in
    c.turn.ensures.turned c.judge.new.buffers
    ∙ ap (turned s.line) c.judge.ensures.judgement
    ∙ push-lf s.line held (place_in c.in-Ok.stage B) c.args.x c.if-x-eq10.true
    ∙ sym (ap (λ (a : Result Stage Refusal). push (stated s.line held (judged_in a B)) c.args.x) c.in-Ok.is)

pub returns-then-held-lt-LINE-clause-pushed : goal.returns-then-held-lt-LINE-clause-pushed
returns-then-held-lt-LINE-clause-pushed c =
    let s = c.args.state in
    let B = c.args.buffers.now in
    push-byte s.line (take s.held B.line.now) _ (judged_in s.stage B) c.args.x c.if-x-eq10.false (hold-more B.line.now s.held c.args.x c.if-held-lt-LINE.true B.line_room)

pub returns-clause-pushed : goal.returns-clause-pushed
returns-clause-pushed c =
    let s = c.args.state in
    let B = c.args.buffers.now in
    push-byte s.line (take s.held B.line.now) _ (judged_in s.stage B) c.args.x c.if-x-eq10.false (hold-full B.line.now s.held c.args.x c.if-held-lt-LINE.false s.held_bound B.line_room)
