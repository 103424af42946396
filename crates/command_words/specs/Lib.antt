pub mod Limits
pub mod Options
pub mod Commands
pub mod SeenCommands
pub mod inside
