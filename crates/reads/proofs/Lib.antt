-- Laws of the reads, and that each public function has one outcome.
pub mod TreeLaws
pub mod AnswerLaws
pub mod OpenLaws
pub mod DocumentLaws
pub mod ChunkLaws
pub mod MissingLaws
pub mod NextLaws
pub mod LowestLaws
pub mod Outcomes
