-- Laws of tokens.
pub mod WsLaws
pub mod BlindLaws
pub mod StepLaws
pub mod ListLaws
pub mod ScalarLaws
pub mod NumberLaws
pub mod LiteralLaws
pub mod CharLaws
pub mod PlainLaws
pub mod PlaceLaws
pub mod Outcomes
