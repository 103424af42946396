pub mod NumberLemmas
pub mod WalkLemmas
pub mod CommandLemmas
