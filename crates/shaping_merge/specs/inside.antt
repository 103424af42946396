-- What private functions and proofs cite. No public clause does.
pub mod Domains
pub mod Laying
pub mod Rollups
