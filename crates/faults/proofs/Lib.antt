-- Laws that this crate's proofs share.
pub mod IdLaws
pub mod FirstLaws
pub mod JudgeLaws
pub mod RowLaws
pub mod LinkLaws
pub mod EachLaws
pub mod Outcomes
