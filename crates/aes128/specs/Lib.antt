pub mod Cipher
pub mod Field
pub mod Fours
pub mod Keys
pub mod Words
