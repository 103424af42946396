pub mod WrittenLemmas
pub mod TextLemmas
pub mod RoundTrips
