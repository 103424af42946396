pub mod Limits
pub mod Fields
pub mod Inputs
pub mod MailLine
pub mod inside
