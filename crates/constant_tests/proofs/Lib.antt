-- The lemmas that proofs cite.
pub mod ConvertedLaws
