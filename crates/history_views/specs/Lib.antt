pub mod Opened
pub mod GivenNow
pub mod Pending
