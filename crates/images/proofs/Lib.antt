-- The theorems about images, in Theorems, and the laws that they rest on.
pub mod Lists
pub mod Tests
pub mod Members
pub mod Rows
pub mod Entries
pub mod Fields
pub mod Trees
pub mod Sequences
pub mod Documents
pub mod Rules
pub mod Replicas
pub mod Theorems
