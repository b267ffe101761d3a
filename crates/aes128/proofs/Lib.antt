pub mod BlockBytes
pub mod Inverses
pub mod KeySteps
pub mod RoundKeys
pub mod RoundTables
pub mod TableRules
pub mod Words
