-- The theorems of lines, and the laws they rest on.
pub mod SaidLaws
pub mod ShownLaws
pub mod TakesLaws
pub mod RoundTrip
pub mod Readings
pub mod OwnLaws
pub mod Whole
pub mod Dump
pub mod Unknown
pub mod Reader
pub mod Refuted
pub mod Examples
