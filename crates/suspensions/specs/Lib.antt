pub mod Orders
pub mod Index
pub mod inside
