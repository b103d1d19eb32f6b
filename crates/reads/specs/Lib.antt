-- What the promises of this crate's helpers cite.
pub mod Reads
pub mod Next
