-- What the promises of this crate cite.
pub mod Splice
pub mod Octets
