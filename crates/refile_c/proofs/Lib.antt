-- Laws of the exports.
pub mod Outcomes
