pub mod ListLemmas
pub mod OptionLemmas
pub mod Firsts
pub mod FaultOrder
pub mod TooMany
pub mod PatternLemmas
