-- The lemmas that proofs cite.
pub mod DataLaws
pub mod KeptLaws
pub mod ListLaws
pub mod PrintedLaws
pub mod TypeLaws
