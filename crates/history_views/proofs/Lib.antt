pub mod ListWalks
pub mod OpenWalks
