-- What the promises of this crate cite.
pub mod Path
pub mod Plan
pub mod Verdict
pub mod Judge
pub mod Apply
pub mod Calls
