-- What private functions and proofs cite. No public clause does.
pub mod Last
pub mod Noting
pub mod Setting
pub mod Showing
