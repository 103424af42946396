pub mod RateLemmas
pub mod ListLemmas
pub mod CallLemmas
pub mod StandingLemmas
pub mod LeaveLemmas
pub mod AllowedLemmas
