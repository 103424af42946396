pub mod ReadyCount
pub mod Picks
pub mod LeastPaths
pub mod SoonestLemmas
