pub mod QueueLemmas
pub mod LinkLemmas
pub mod StepLemmas
pub mod WalkLemmas
