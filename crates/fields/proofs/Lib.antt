-- Laws of what texts say, and that each public function has one outcome.
pub mod NumberLaws
pub mod HashLaws
pub mod RevLaws
pub mod NameLaws
pub mod Outcomes
