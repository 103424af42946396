pub mod Scene
pub mod Verdicts
pub mod Breaches
pub mod inside
