-- The theorems about the C calls, and the laws they rest on.
pub mod Results
pub mod CallLaws
pub mod Demand2
pub mod PullLaws
pub mod Demand3
pub mod ChangeLaws
pub mod ReadLaws
pub mod Frames
pub mod LeafLaws
pub mod Examples
pub mod Exist
pub mod Instances
pub mod Lines
