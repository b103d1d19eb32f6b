-- Laws of splices and of numbers in bytes.
pub mod SpliceLaws
pub mod NumberLaws
pub mod ByteOrderLaws
pub mod Outcomes
