-- Documents as the protocol writes them.
pub mod Said
pub mod Take
pub mod Put
pub mod Whole
pub mod Unknown
pub mod Examples
