pub mod NoneFound
pub mod WakeLemmas
