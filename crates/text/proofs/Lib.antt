-- Laws of text, and that each public function has one outcome.
pub mod TextLaws
pub mod Outcomes
