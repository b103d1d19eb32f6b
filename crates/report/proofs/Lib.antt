-- Laws of the report, and that each public function has one outcome.
pub mod PutLaws
pub mod WinnerLaws
pub mod StandingLaws
pub mod FaultLaws
pub mod AnswerLaws
pub mod JudgedLaws
pub mod Outcomes
