pub mod Histories
pub mod Sessions
pub mod Records
