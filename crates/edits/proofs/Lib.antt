-- Laws of the edit.
pub mod EditLaws
pub mod ParentLaws
pub mod ChildLaws
pub mod DoneLaws
pub mod Outcomes
pub mod Frame
