pub mod Repeats
pub mod Returns
