pub mod LayerLemmas
pub mod OptionLemmas
pub mod MxLemmas
pub mod PoolLemmas
pub mod ServedLemmas
pub mod SiteLemmas
pub mod RotationLemmas
pub mod SameTexts
