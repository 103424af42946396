pub mod CountLemmas
pub mod LeastLemmas
pub mod IndexLemmas
pub mod AnswerLemmas
