-- What private functions and proofs cite. No public clause does.
pub mod Seen
pub mod Suffixes
pub mod TextPlaces
