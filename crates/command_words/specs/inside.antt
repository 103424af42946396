-- What private functions and proofs cite. No public clause does.
pub mod Seen
pub mod Verbs
pub mod Walk
