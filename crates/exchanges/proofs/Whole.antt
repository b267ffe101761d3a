-- What specs/ claims of exchanges, whole.
use Rattle.exchanges.specs.Exchanges.{ExchangePromises}
use Rattle.exchanges.proofs.Activations.{new_fresh, some_ready, link_succeeds, secret_succeeds}
use Rattle.exchanges.proofs.Records.{record_passes, records_pass}
use Rattle.exchanges.proofs.Ends.{transfers_succeed, termination_succeeds, link_ends, secret_ends}

pub undisturbed_succeeds : ExchangePromises
undisturbed_succeeds = record {
  news_fresh = new_fresh;
  some_ready = some_ready;
  links = link_succeeds;
  secrets = secret_succeeds;
  record_passes = record_passes;
  records_pass = records_pass;
  transfers = transfers_succeed;
  terminations = termination_succeeds;
  link_ends = link_ends;
  secret_ends = secret_ends;
}
