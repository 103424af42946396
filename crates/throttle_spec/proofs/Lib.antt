pub mod BucketLemmas
pub mod WindowLemmas
pub mod TextLemmas
