pub mod Peers
pub mod Exchanges
