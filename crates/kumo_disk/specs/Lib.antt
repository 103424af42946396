pub mod Disk
pub mod Calls
pub mod Failing
pub mod Memory
pub mod inside
