pub mod Places
pub mod Stores
