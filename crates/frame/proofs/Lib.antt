pub mod Trips
pub mod Zeros
