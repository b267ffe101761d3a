pub mod AllowanceProofs
pub mod Allowances
