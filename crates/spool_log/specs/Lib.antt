pub mod Area
pub mod Head
pub mod Log
pub mod inside
