-- Laws of the C boundary.
pub mod NumberLaws
pub mod CallLaws
pub mod AnswerLaws
pub mod ChangeLaws
pub mod ReadCallLaws
pub mod Outcomes
pub mod FairLaws
pub mod Decode
pub mod Keeps
pub mod LineLaws
