pub mod Texts
pub mod Policies
pub mod Report
pub mod Explained
pub mod inside
