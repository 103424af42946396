pub mod ExplainText
pub mod inside
