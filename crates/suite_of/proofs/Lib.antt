pub mod Parts
pub mod StreamTurns
pub mod Differences
