-- The lemmas of the crate.
pub mod ReadLaws
pub mod ResultLaws
