pub mod QueuesFile
pub mod inside
