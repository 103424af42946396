pub mod Content
pub mod Reading
pub mod Crash
pub mod Store
pub mod Standing
pub mod Whole
pub mod inside
