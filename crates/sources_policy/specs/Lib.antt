pub mod Limits
pub mod SourcesFile
