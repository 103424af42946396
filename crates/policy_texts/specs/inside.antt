-- What private functions cite. No public clause does.
pub mod Stages
