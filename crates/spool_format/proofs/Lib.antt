pub mod NumberLemmas
pub mod FieldLemmas
pub mod SmallLemmas
pub mod LengthLemmas
pub mod HeldLemmas
pub mod PartLemmas
pub mod ReadLemmas
