pub mod Lists
pub mod LegalLemmas
pub mod OneMore
pub mod Numbers
pub mod Picked
pub mod Settling
pub mod AllowedLemmas
pub mod RateLemmas
