use Rattle.std.proofs.Common.{◌≡◌, length, take, ◌∙◌, ap, arith, length-take}
use Rattle.protocol.specs.Calls.{call_effect}
use Rattle.protocol.proofs.CallEnds.{every_call_ends}
use Rattle.entity.specs.Views.{view}
use Rattle.entity.specs.CallViews.{call_of}
use Rattle.replay.proofs.Replies.{reply_told}
use Rattle.replay.proofs.make.make.Goals as goal

pub returns-clause-written : goal.returns-clause-written
returns-clause-written g c =
    let s = g.S.Suite.scheme in
    let m = view g.S.HasMeaning.meaning c.args.entity.now in
    let logged = c.args.logged.now in
    let lent = take logged.room c.args.buffer.now in
    let fits = c.requires in
    let room : length lent ≡ logged.room = omega (arith, length-take logged.room c.args.buffer.now) in
    let made = c.call-answer in
    c.written-written.ensures
    ∙ reply_told m (call_effect s m (call_of logged.call (length lent))) made.result made.new.buffer _ (every_call_ends s m (call_of logged.call (length lent))) made.ensures.answer made.ensures.buffer
    ∙ ap (λ n. (call_effect s m (call_of logged.call n)).reply) room
