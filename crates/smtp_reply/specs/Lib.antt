pub mod Limits
pub mod ReplyText
pub mod Grammar
pub mod Replies
pub mod Reading
