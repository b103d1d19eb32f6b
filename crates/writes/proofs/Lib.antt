-- Laws of the path write.
pub mod PathLaws
pub mod AddLaws
pub mod PlanLaws
pub mod ReachLaws
pub mod FormLaws
pub mod PassLaws
pub mod SettledLaws
pub mod StateLaws
pub mod JudgeLaws
pub mod LearnLaws
pub mod WriteLaws
pub mod Outcomes
pub mod Frame
