pub mod Words
pub mod TableNames
