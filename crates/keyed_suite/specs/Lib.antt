pub mod Keyed
pub mod KeyedProofs
