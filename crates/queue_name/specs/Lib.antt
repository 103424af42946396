pub mod Limits
pub mod QueueName
pub mod NameParts
pub mod Address
pub mod Message
pub mod NameText
pub mod Criteria
pub mod Components
