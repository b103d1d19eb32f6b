-- Laws of a document's lines, and that each public function has one outcome.
pub mod LineLaws
pub mod PathLaws
pub mod RootLaws
pub mod LinesLaws
pub mod OpenLaws
pub mod SizeLaws
pub mod Outcomes
