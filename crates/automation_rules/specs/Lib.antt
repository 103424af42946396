pub mod Memory
pub mod Matches
pub mod Standing
pub mod inside
