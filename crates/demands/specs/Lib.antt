-- What a call of an exported function is.
pub mod Calls
pub mod Runs
pub mod Alike
pub mod Played
