-- Laws of the layout.
pub mod PieceLaws
pub mod RoundLaws
pub mod StoredLaws
pub mod FitLaws
pub mod EntryLaws
pub mod TableLaws
pub mod ChangeLaws
pub mod PlaceLaws
pub mod BodyLaws
pub mod RowChangeLaws
pub mod LearnLaws
pub mod Outcomes
