pub mod Fields
pub mod Held
pub mod Settled
pub mod Deferred
pub mod inside
