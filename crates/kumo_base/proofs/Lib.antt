pub mod DurationLemmas
mod SplitLemmas
pub mod MarkLemmas
