pub mod ScriptedPeer
pub mod inside
