-- Laws of the definitions.
pub mod OrderLaws
pub mod MapLaws
pub mod ChoiceLaws
pub mod GivenLaws
pub mod Examples
pub mod ByteLaws
pub mod Readings
pub mod ReadingsOrder
pub mod ReadingsRefusal
pub mod ReadingsWrite
pub mod ReadingsEdit
pub mod ReadingsRead
pub mod ReadingsPull
pub mod ReadingsImage
pub mod ReadingsReport
pub mod OutcomeLaws
