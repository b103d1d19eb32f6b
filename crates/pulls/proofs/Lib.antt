-- The laws of a pull.
pub mod DocumentLaws
pub mod OfferLaws
pub mod PullLaws
pub mod Calls
pub mod Demand3
pub mod Instances
pub mod Outcomes
