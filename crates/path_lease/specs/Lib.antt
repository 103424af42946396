pub mod Calls
pub mod Leaves
pub mod State
pub mod Standing
pub mod Allowed
pub mod inside
