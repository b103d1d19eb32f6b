-- Laws of rows and of tables of rows.
pub mod RowLaws
pub mod EditionLaws
pub mod TableLaws
pub mod PlaceLaws
pub mod SearchLaws
pub mod LeafLaws
pub mod WinnerLaws
pub mod PathLaws
pub mod Outcomes
