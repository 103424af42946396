pub mod Question
pub mod Least
pub mod Ends
