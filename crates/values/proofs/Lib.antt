-- Laws of values.
pub mod ValueLaws
pub mod SkipLaws
pub mod RfcLaws
pub mod TextLaws
pub mod OnlyLaws
pub mod PlaceLaws
pub mod ReadingLaws
pub mod WalkLaws
pub mod ItemLaws
pub mod FirstLaws
pub mod LineLaws
pub mod Outcomes
