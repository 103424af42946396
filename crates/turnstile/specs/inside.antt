-- What the steps of one turn owe each other. No public clause cites it.
pub mod Steps
