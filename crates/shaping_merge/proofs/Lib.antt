mod ExplainLemmas
pub mod FirstsLemmas
pub mod LayingLemmas
pub mod SameSite
pub mod SitePieces
pub mod ShapeSteps
