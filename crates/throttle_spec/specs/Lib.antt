pub mod Limits
pub mod Throttle
pub mod Rates
pub mod Bucket
pub mod ThrottleText
