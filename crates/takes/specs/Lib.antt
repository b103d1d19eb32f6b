-- What the promises of this crate cite.
pub mod Spots
pub mod Walk
pub mod Path
pub mod Read
pub mod Took
