pub mod Known
pub mod Examined
pub mod inside
