pub mod Streams
pub mod Payloads
pub mod Kinds
pub mod StreamProofs
pub mod PayloadProofs
pub mod KindProofs
pub mod KindMeanings
