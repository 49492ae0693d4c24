-- The lemmas of the crate.
pub mod ClassLaws
pub mod NameLaws
pub mod TableLaws
pub mod WordLaws
pub mod LlvmLaws
