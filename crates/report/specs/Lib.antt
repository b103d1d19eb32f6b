-- What the promises of this crate's helpers cite.
pub mod Lines
pub mod Loaded
