pub mod Limits
pub mod Causes
pub mod Duration
pub mod Moment
pub mod Lines
pub mod Utf8
