-- What private functions and proofs cite. No public clause does.
pub mod Alone
pub mod Ledgers
