pub mod LogLines
pub mod LogWriting
