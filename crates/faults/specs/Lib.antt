-- What the promises of this crate cite.
pub mod Places
pub mod Each
pub mod Links
pub mod Judged
