-- What each call of the C interface answers and leaves.
pub mod House
pub mod Boundary
pub mod Decode
