pub mod Dues
pub mod Kept
pub mod inside
