-- What private functions and proofs cite. No public clause does.
pub mod FirstLine
pub mod Holding
pub mod Asking
pub mod Tries
