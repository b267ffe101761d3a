pub mod Numbers
pub mod Words
pub mod Wraps
pub mod Outcomes
pub mod Models
pub mod Steps
pub mod Calls
pub mod Ends
