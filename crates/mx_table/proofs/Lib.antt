pub mod NameLemmas
pub mod WordLemmas
pub mod HostLemmas
pub mod MergeLemmas
pub mod LawLemmas
pub mod NamedLemmas
