-- What private functions and proofs cite. No public clause does.
pub mod OneDelivery
pub mod OneMessage
pub mod PolicyCauses
pub mod RegistryState
pub mod SendCauses
pub mod SpoolCauses
pub mod Writing
