pub mod Keep
pub mod SetLaws
pub mod Sets
pub mod Splits
pub mod Words
pub mod WordsBack
pub mod Members
