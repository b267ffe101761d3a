-- What is promised of every run, and of every two link sessions, holds of what a replay tells.
use Rattle.std.proofs.Common.{◌≡◌, List, [], reverse, sym, ap, ◌∙◌, subst}
use Rattle.std.specs.List.{AllByRecursion}
use Rattle.suite.specs.Schemes.{Scheme, IsLawful}
use Rattle.protocol.specs.Models.{Model}
use Rattle.protocol.specs.Calls.{Call, IsGivenBytes}
use Rattle.histories.specs.Histories.{entity_after, history}
use Rattle.histories.specs.Records.{was_sent, was_handed, session_records, data_of}
use Rattle.promises.specs.Promises.{KeepsPromises}
use Rattle.promises.proofs.Keeping.{every_run, sent_reported, handed_reported}
use Rattle.promises.proofs.Pairs.{ordered}
use Rattle.replay.specs.declared.entry.Entry.{Entry}
use Rattle.replay.specs.Entries.{transcript_history, HasRecordsInPlace, transcript_records}
use Rattle.replay.specs.Replays.{IsReplay, RecordsFollow}

pub replayed : (s : Scheme) → IsLawful s → (m : Model) (calls : List Call) (left : Model) (entries : List Entry)
    → left ≡ entity_after s m (reverse calls) → transcript_history calls entries ≡ history s m (reverse calls) → HasRecordsInPlace [] calls entries
    → transcript_records entries ≡ session_records (history s m (reverse calls)) → AllByRecursion IsGivenBytes (reverse calls)
    → IsReplay s m calls left entries
replayed s law m calls left entries model told in_place records bytes = record {
  model = model;
  tells_history = told;
  in_place = in_place;
  records = records;
  bytes = bytes;
  kept = λ fresh.
      subst (λ z. KeepsPromises s z (transcript_history calls entries)) (sym model)
      (subst (λ z. KeepsPromises s (entity_after s m (reverse calls)) z) (sym told) (every_run s law m fresh (reverse calls) bytes));
}

pub order_told : (s t : Scheme) → IsLawful s → IsLawful t → (m m' : Model) (calls calls' : List Call) (left left' : Model) (entries entries' : List Entry)
    → IsReplay s m calls left entries → IsReplay t m' calls' left' entries' → RecordsFollow s t m m' calls calls' entries entries'
order_told s t law law' m m' calls calls' left left' entries entries' r r' alike fresh fresh' value n n' mine theirs one other only =
    let out = ap (data_of n was_handed) r.records ∙ handed_reported s law m fresh (reverse calls) r.bytes n value mine one in
    let told = ap (data_of n' was_sent) r'.records ∙ sent_reported t law' m' fresh' (reverse calls') r'.bytes n' value theirs other in
    let f = ordered s t law law' alike m m' fresh fresh' (reverse calls) (reverse calls') r.bytes r'.bytes value n n' mine theirs one other only in
    rw (out, told) f
