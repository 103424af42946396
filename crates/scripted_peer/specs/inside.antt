-- What loops and private functions cite. No public clause does.
pub mod Begins
