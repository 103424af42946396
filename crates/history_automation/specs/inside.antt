-- What private functions and proofs cite. No public clause does.
pub mod Setting
pub mod Filled
pub mod Refused
