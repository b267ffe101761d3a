pub mod Numbers
pub mod Letters
pub mod Words
pub mod Sheets
pub mod Readings
