pub mod Calls
pub mod Meanings
pub mod Numbers
pub mod Schemes
pub mod Words
