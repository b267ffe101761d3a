pub mod Ranges
pub mod Fields
pub mod Lines
pub mod Writing
pub mod Columns
pub mod Tellings
