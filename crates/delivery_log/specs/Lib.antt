pub mod LogText
pub mod inside
