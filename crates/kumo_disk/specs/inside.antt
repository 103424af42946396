pub mod Keeping
pub mod Crash
