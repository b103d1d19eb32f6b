-- The grammar of JSON, and what the promises of this crate cite.
pub mod Grammar
pub mod Rfc
pub mod Tight
pub mod Members
pub mod Skips
