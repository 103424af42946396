pub mod Limits
pub mod OptionValues
pub mod RuleValues
pub mod Tables
pub mod Faults
pub mod ShapingFile
pub mod Refusals
pub mod inside
