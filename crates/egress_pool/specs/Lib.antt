pub mod Turner
