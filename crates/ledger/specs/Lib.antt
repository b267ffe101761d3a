pub mod Ledgers
pub mod Rows
pub mod Tables
pub mod RowProofs
pub mod Words
