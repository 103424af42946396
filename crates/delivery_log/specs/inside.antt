-- What loops and private functions cite. No public clause does.
pub mod LogMembers
pub mod LogGathered
