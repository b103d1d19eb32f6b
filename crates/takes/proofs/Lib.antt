-- Laws of lines taken in, and that each public function has one outcome.
pub mod SpotLaws
pub mod ValueLaws
pub mod SayLaws
pub mod WalkLaws
pub mod LaidLaws
pub mod HashLaws
pub mod IdsLaws
pub mod ReadLaws
pub mod RevisionsLaws
pub mod TookLaws
pub mod Outcomes
