pub mod Rounds
pub mod Rotations
