pub mod Faults
pub mod DomainLemmas
pub mod PlaceLemmas
pub mod FirstLemmas
