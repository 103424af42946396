pub mod MxText
pub mod inside
