pub mod Places
pub mod Values
pub mod Walks
pub mod Reports
pub mod Domains
pub mod Order
pub mod inside
