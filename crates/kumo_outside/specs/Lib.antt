pub mod Limits
pub mod Content
pub mod Sessions
pub mod Devices
pub mod Search
pub mod Reading
