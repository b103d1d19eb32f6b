-- How a replica lies in a buffer, and what is read from it there.
pub mod Storage
pub mod Documents
pub mod Change
