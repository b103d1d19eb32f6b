-- A field of an entry or a row stands at its place in the whole.
pub mod FieldLaws
pub mod Outcomes
