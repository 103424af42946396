pub mod AddressLemmas
pub mod LowerCaseLemmas
pub mod CutLemmas
pub mod NameTextLemmas
pub mod EqualLemmas
pub mod ProperLemmas
pub mod SpellingLemmas
