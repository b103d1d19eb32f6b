-- What the promises of this crate cite.
pub mod Rows
pub mod Table
pub mod Leaf
pub mod Path
