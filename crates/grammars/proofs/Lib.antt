-- The lemmas of the crate.
pub mod GrammarLaws
pub mod RowLaws
pub mod LineLaws
pub mod FlatLaws
pub mod ReadingLaws
