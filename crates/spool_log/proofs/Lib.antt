pub mod Bytes
pub mod Forms
pub mod Drafts
pub mod Headers
pub mod Records
