-- the definitions that the contracts cite, by the crates that they stand in
pub use Rattle.activation.specs as activation
pub use Rattle.bench_suite.specs as bench_suite
pub use Rattle.entity.specs as entity
pub use Rattle.frame.specs as frame
pub use Rattle.keyed_suite.specs as keyed_suite
pub use Rattle.ledger.specs as ledger
pub use Rattle.protocol.specs as protocol
pub use Rattle.quota.specs as quota
pub use Rattle.replay.specs as replay
pub use Rattle.suite.specs as suite
pub use Rattle.suite_of.specs as suite_of
pub use Rattle.service_sheet.specs as service_sheet
