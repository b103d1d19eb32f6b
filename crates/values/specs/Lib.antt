-- What the promises of this crate cite.
pub mod Places
pub mod Reading
pub mod Kinds
