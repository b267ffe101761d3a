-- The promises of specs/, whole.
use Rattle.suite.proofs.KeyLaws.{one_kind-sym}
use Rattle.promises.specs.Promises.{RunPromises}
use Rattle.promises.proofs.Keeping.{every_run, every_session}
use Rattle.promises.proofs.Pairs.{kinds_alike, both_ways, ordered}

pub promises_hold : RunPromises
promises_hold = record {
  every_run = every_run;
  every_session = every_session;
  kinds_alike = kinds_alike;
  both_ways = both_ways;
  kinds_both_ways = one_kind-sym;
  ordered = ordered;
}
