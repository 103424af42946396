-- What private functions and proofs cite. No public clause does.
pub mod Rewriting
pub mod Opening
pub mod Replay
