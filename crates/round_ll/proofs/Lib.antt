-- The lemmas of the crate.
pub mod LineLaws
pub mod ReportLaws
pub mod RoundingLaws
pub mod RunLaws
pub mod ToldLemmas
