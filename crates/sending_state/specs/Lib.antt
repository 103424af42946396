pub mod State
pub mod Kept
pub mod Questions
pub mod inside
