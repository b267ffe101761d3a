use Rattle.std.proofs.Common.{◌≡◌, sym, ap, ◌∙◌, ◌+◌, ◌<◌, ◌≤◌, length, take, reverse, subst, arith, rules}
use Rattle.std.proofs.lemmas.List.{take_all}
use Rattle.histories.specs.Records.{running_session}
use Rattle.entity.specs.Views.{view}
use Rattle.replay.specs.LogViews.{logged_calls}
use Rattle.replay.specs.Replays.{IsReplay}
use Rattle.replay.proofs.Orders.{replayed}
use Rattle.replay.proofs.Turns.{calls_more, told_more, in_place_more, records_more, given_more, model_more, entry_is, history_more, session_records_more, session_more}
use Rattle.replay.proofs.play.play.Goals as goal

pub loop-i-preserved : goal.loop-i-preserved
loop-i-preserved g c =
    let s = g.S.Suite.scheme in
    let m = view g.S.HasMeaning.meaning c.args.entity.now in
    let log = c.args.log.now in
    let i = c.loop-i.i in
    let so_far = c.loop-i.invariant in
    let low : i < length log = omega arith in
    let place : i < length c.loop-i.entries = omega arith in
    let old = reverse (logged_calls (take i log)) in
    let new = reverse (logged_calls (take (i + 1) log)) in
    let e = calls_more log i _ low in
    let made = c.make-answer.ensures in
    let before = view g.S.HasMeaning.meaning c.loop-i.entity in
    let x = entry_is s m old new _ before e so_far.model _ c.make-answer.result.0 _ c.note.ensures.told made.answer made.written in
    record {
      places = search rules;
      lent = search rules;
      bytes = given_more s m old new _ before e so_far.model c.given.ensures so_far.bytes;
      model = model_more s m old new _ before e so_far.model _ made.model;
      told = history_more s m old new _ before e so_far.model _ _ _ x so_far.told (told_more log c.loop-i.entries i _ c.note.result low so_far.places);
      in_place = in_place_more log c.loop-i.entries i _ c.note.result c.loop-i.session low so_far.places so_far.in_place (so_far.session ∙ sym (ap running_session so_far.told)) c.note.ensures.record;
      records = session_records_more s m old new _ before e so_far.model _ _ _ _ c.loop-i.session x so_far.records so_far.session c.note.ensures.record (records_more c.loop-i.entries i c.note.result place);
      session = session_more s m old new _ before e so_far.model c.make-answer.result.0 c.loop-i.session _ made.answer so_far.session c.next_session-session.ensures;
    }

pub returns : goal.returns
returns g c =
    let s = g.S.Suite.scheme in
    let m = view g.S.HasMeaning.meaning c.args.entity.now in
    let so_far = c.loop-i.invariant in
    let long : length c.loop-i.entries ≤ c.loop-i.i = omega arith in
    let all : take c.loop-i.i c.args.log.now ≡ c.args.log.now = take_all _ _ c.loop-i-test.false in
    let all_told : take c.loop-i.i c.loop-i.entries ≡ c.loop-i.entries = take_all _ _ long in
    subst (λ z. IsReplay s m (logged_calls z) (view g.S.HasMeaning.meaning c.loop-i.entity) c.loop-i.entries) all
    (subst (λ z. IsReplay s m (logged_calls (take c.loop-i.i c.args.log.now)) (view g.S.HasMeaning.meaning c.loop-i.entity) z) all_told
    (replayed s g.met.S.Suite.lawful m (logged_calls (take c.loop-i.i c.args.log.now)) _ _ so_far.model so_far.told so_far.in_place so_far.records so_far.bytes))
