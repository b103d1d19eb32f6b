-- What the promises of this crate cite.
pub mod Pulls
pub mod BothWays
