pub mod Body
pub mod Transcript
pub mod Speaks
pub mod Ready
pub mod inside
