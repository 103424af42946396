pub mod Stability
pub mod Following
pub mod Sending
pub mod Listening
pub mod Bodies
pub mod Parts
pub mod Trying
